-- Pages of conses: what a count over their words tells.
use Rattle.std.proofs.Common.{◌≡◌, ◌≢◌, ℕ, suc, ◌+◌, ◌-◌, ◌*◌, ◌/◌, ◌%◌, ◌<◌, ◌≤◌, ◌==◌, List, [], ◌∷◌, Bool, true, false, Option, Some, None, length, map, take, drop, get_or, inl, inr, refl, sym, ◌∙◌, ap, subst, arith}
use Rattle.std.proofs.lemmas.Bool.{cases_Bool, ne_eqb, false≢true}
use Rattle.std.proofs.lemmas.List.{get_or-take, get_or-drop, get_or-map, length-map, length-drop, length-take-le}
use Rattle.std.proofs.lemmas.List.Elements.{All-nil, All-cons, All-head, All-tail}
use Rattle.std.specs.Prelude.{All, IfSome, slice_index}
use Rattle.heap_terms.specs.declared.kinds.Kind.TheVariants as kinds
use Rattle.heap_terms.specs.declared.pages.Entry.{Entry}
use Rattle.heap_terms.specs.Heap.{entry_at}
use Rattle.heap_terms.specs.LaidOut.{Piece, Fillers, Whole, words_of_piece, AreLaidOut, AreObjectsOn, ObjectStart, laid_words, object_starts}
use Rattle.heap_terms.specs.Layout.{filler_word, size_of}
use Rattle.pin_set.specs.Starts.{Starts}
use Rattle.object_walk.specs.declared.found.Found.{Found}
use Rattle.object_walk.specs.Walks.{piece_of, found_at}
use Rattle.object_walk.proofs.Pieces.{piece_told}
use Rattle.ambiguous_roots.specs.Hinted.{hint_of}
use Rattle.ambiguous_roots.specs.Pinning.{is_referred, referred, CanPinAll}

-- what a word begins
filler_of : (word : ℕ) → word ≡ filler_word → piece_of word ≡ Fillers
unfolding piece_of
filler_of word e = rw e refl

cons_of : (word : ℕ) → word % 4 ≢ 1 → piece_of word ≡ Whole kinds.Cons 2
unfolding piece_of
cons_of word value =
    let not_filler : (word == filler_word) ≡ false = ne_eqb word filler_word (λ e. value (rw e refl)) in
    let not_header : (word % 4 == 1) ≡ false = ne_eqb (word % 4) 1 value in
    rw (not_filler, not_header) refl

-- a word of a part of a space
part-at : (part words : List ℕ) (from k : ℕ) → part ≡ take (length part) (drop from words) → k < length part → slice_index words (from + k) ≡ slice_index part k
part-at part words from k is below =
    sym (ap (λ ws. slice_index ws k) is ∙ get_or-take (length part) (drop from words) k 0 below ∙ get_or-drop from words k 0)

-- the pieces from an index on that are still to be counted
pub record IsCounted (words : List ℕ) (from end : ℕ) (pieces : List Piece) (index count : ℕ) : Type 0 where
  pub rest : List Piece
  pub laid : AreLaidOut words (from + index) end rest
  pub total : count + length (object_starts (from + index) rest) ≡ length (object_starts from pieces)

-- at first all of them
pub none-counted : (words : List ℕ) (from end : ℕ) (pieces : List Piece) → AreLaidOut words from end pieces → IsCounted words from end pieces 0 0
none-counted words from end pieces h =
    let same : from ≡ from + 0 = omega arith in
    record {
      rest = pieces;
      laid = subst (λ (i : ℕ). AreLaidOut words i end pieces) same h;
      total = (let e : length (object_starts (from + 0) pieces) ≡ length (object_starts from pieces) = ap (λ (i : ℕ). length (object_starts i pieces)) (sym same) in omega (arith, e));
    }

module _ (words : List ℕ) (from end : ℕ) (pieces : List Piece) (index count : ℕ) (before : from + index < end) where
  -- a cons more
  pub cons-counted : slice_index words (from + index) % 4 ≢ 1 → IsCounted words from end pieces index count → IsCounted words from end pieces (index + 2) (count + 1)
  cons-counted value h = by_rest h.rest h.laid h.total
    where
      by_rest : (rest : List Piece) → AreLaidOut words (from + index) end rest → count + length (object_starts (from + index) rest) ≡ length (object_starts from pieces) →
          IsCounted words from end pieces (index + 2) (count + 1)
      by_rest [] laid total = absurd (omega (arith, laid, before))
      by_rest (p ∷ ps) laid total = of_piece p (sym (piece_told words (from + index) p laid.1) ∙ cons_of (slice_index words (from + index)) value) laid.2 total
        where
          of_piece : (p : Piece) → p ≡ Whole kinds.Cons 2 → AreLaidOut words (from + index + words_of_piece p) end ps →
              count + length (object_starts (from + index) (p ∷ ps)) ≡ length (object_starts from pieces) → IsCounted words from end pieces (index + 2) (count + 1)
          of_piece p is behind total =
              let next : from + index + 2 ≡ from + (index + 2) = omega arith in
              let behind' : AreLaidOut words (from + index + 2) end ps = subst (λ (q : Piece). AreLaidOut words (from + index + words_of_piece q) end ps) is behind in
              let total' : count + suc (length (object_starts (from + index + 2) ps)) ≡ length (object_starts from pieces) =
              sym (ap (λ (q : Piece). count + length (object_starts (from + index) (q ∷ ps))) is) ∙ total in
              let same : length (object_starts (from + index + 2) ps) ≡ length (object_starts (from + (index + 2)) ps) = ap (λ (i : ℕ). length (object_starts i ps)) next in
              record { rest = ps; laid = subst (λ (i : ℕ). AreLaidOut words i end ps) next behind'; total = omega (arith, total', same) }

  -- two fillers more
  pub fillers-counted : slice_index words (from + index) ≡ filler_word → IsCounted words from end pieces index count → IsCounted words from end pieces (index + 2) count
  fillers-counted filler h = by_rest h.rest h.laid h.total
    where
      by_rest : (rest : List Piece) → AreLaidOut words (from + index) end rest → count + length (object_starts (from + index) rest) ≡ length (object_starts from pieces) →
          IsCounted words from end pieces (index + 2) count
      by_rest [] laid total = absurd (omega (arith, laid, before))
      by_rest (p ∷ ps) laid total = of_piece p (sym (piece_told words (from + index) p laid.1) ∙ filler_of (slice_index words (from + index)) filler) laid.2 total
        where
          of_piece : (p : Piece) → p ≡ Fillers → AreLaidOut words (from + index + words_of_piece p) end ps →
              count + length (object_starts (from + index) (p ∷ ps)) ≡ length (object_starts from pieces) → IsCounted words from end pieces (index + 2) count
          of_piece p is behind total =
              let next : from + index + 2 ≡ from + (index + 2) = omega arith in
              let behind' : AreLaidOut words (from + index + 2) end ps = subst (λ (q : Piece). AreLaidOut words (from + index + words_of_piece q) end ps) is behind in
              let total' : count + length (object_starts (from + index + 2) ps) ≡ length (object_starts from pieces) =
              sym (ap (λ (q : Piece). count + length (object_starts (from + index) (q ∷ ps))) is) ∙ total in
              let same : length (object_starts (from + index + 2) ps) ≡ length (object_starts (from + (index + 2)) ps) = ap (λ (i : ℕ). length (object_starts i ps)) next in
              record { rest = ps; laid = subst (λ (i : ℕ). AreLaidOut words i end ps) next behind'; total = omega (arith, total', same) }

-- at last none is left
pub all-counted : (words : List ℕ) (from end : ℕ) (pieces : List Piece) (index count : ℕ) → end ≤ from + index → IsCounted words from end pieces index count →
    count ≡ length (object_starts from pieces)
all-counted words from end pieces index count past h = by_rest h.rest h.laid h.total
  where
    by_rest : (rest : List Piece) → AreLaidOut words (from + index) end rest → count + length (object_starts (from + index) rest) ≡ length (object_starts from pieces) →
        count ≡ length (object_starts from pieces)
    by_rest [] laid total = omega (arith, total)
    by_rest (p ∷ ps) laid total = absurd (omega (arith, laid.0, past))

-- the same, for words that are a part of a space
pub part-cons : (part words : List ℕ) (from : ℕ) (pieces : List Piece) (index count : ℕ) → part ≡ take (length part) (drop from words) → index < length part →
    slice_index part index % 4 ≢ 1 → IsCounted words from (from + length part) pieces index count → IsCounted words from (from + length part) pieces (index + 2) (count + 1)
part-cons part words from pieces index count is below value h =
    cons-counted words from (from + length part) pieces index count (omega (arith, below)) (λ e. value (ap (λ (w : ℕ). w % 4) (sym (part-at part words from index is below)) ∙ e)) h

pub part-fillers : (part words : List ℕ) (from : ℕ) (pieces : List Piece) (index count : ℕ) → part ≡ take (length part) (drop from words) → index < length part →
    slice_index part index ≡ filler_word → IsCounted words from (from + length part) pieces index count → IsCounted words from (from + length part) pieces (index + 2) count
part-fillers part words from pieces index count is below filler h =
    fillers-counted words from (from + length part) pieces index count (omega (arith, below)) (part-at part words from index is below ∙ filler) h

-- objects begin where words are laid out
pub starts-within : (words : List ℕ) (from end : ℕ) (pieces : List Piece) → AreLaidOut words from end pieces →
    All (λ (s : ObjectStart). (from ≤ s.index) × (s.index < end)) (object_starts from pieces)
starts-within words from end [] h = All-nil (λ (s : ObjectStart). (from ≤ s.index) × (s.index < end))
starts-within words from end (Fillers ∷ pieces) h = λ k d l. (let at = starts-within words (from + 2) end pieces h.2 k d l in (omega (arith, at.0), at.1))
starts-within words from end (Whole kind n ∷ pieces) h =
    All-cons (λ (s : ObjectStart). (from ≤ s.index) × (s.index < end)) (record { index = from; kind = kind; n = n }) (object_starts (from + size_of kind n) pieces)
    (omega arith, h.0) (λ k d l. (let at = starts-within words (from + size_of kind n) end pieces h.2 k d l in (omega (arith, at.0), at.1)))

-- where no start is referred to, none is listed
pub none-referred : (words : List ℕ) (starts : List ObjectStart) → All (λ (s : ObjectStart). is_referred words s.index s.kind ≡ false) starts →
    referred words (map found_at starts) ≡ []
none-referred words [] none = refl
none-referred words (s ∷ starts) none =
    let here : is_referred words s.index s.kind ≡ false = All-head (λ (s : ObjectStart). is_referred words s.index s.kind ≡ false) s starts none in
    rw here (none-referred words starts (All-tail (λ (s : ObjectStart). is_referred words s.index s.kind ≡ false) s starts none))

-- what holds of any number holds of one that is there
pub some-all : (P : ℕ → Type 0) (o : Option ℕ) → ((n : ℕ) → P n) → IfSome o P
some-all P None all = tt
some-all P (Some n) all = all n

-- no start on a page has a hint
pub starts-unhinted : (words : List ℕ) (pages : List Entry) (page : ℕ) (hints : List Bool) → ((k : ℕ) → 256 * page ≤ k → k < 256 * page + 256 → hint_of hints k ≡ false) →
    (starts : List ObjectStart) → AreObjectsOn words pages page starts → All (λ (s : ObjectStart). hint_of hints (s.index / 2) ≡ false) starts
starts-unhinted words pages page hints none starts on =
    let most : laid_words page (entry_at pages page) ≤ 512 = on.on_page.most in
    subst (λ (ss : List ObjectStart). All (λ (s : ObjectStart). hint_of hints (s.index / 2) ≡ false) ss) (sym on.starts_are)
    (λ k d l. (let at = starts-within words (512 * page) (512 * page + laid_words page (entry_at pages page)) on.pieces on.on_page.laid k d l in
    none ((get_or (object_starts (512 * page) on.pieces) k d).index / 2) (omega (arith, at.0)) (omega (arith, at.1, most))))

-- so none of them is referred to
pub unhinted-unreferred : (words : List ℕ) (hints : List Bool) (pins : Starts) (starts : List ObjectStart) → CanPinAll words hints pins (map found_at starts) →
    All (λ (s : ObjectStart). hint_of hints (s.index / 2) ≡ false) starts → referred words (map found_at starts) ≡ []
unhinted-unreferred words hints pins starts can none = none-referred words starts (λ k d l. elim (cases_Bool (is_referred words (get_or starts k d).index (get_or starts k d).kind)) [
  | inr not ↦ not
  | inl hit ↦ absurd (false≢true (sym (none k d l) ∙ by_hint k d l hit))
])
  where
    by_hint : (k : ℕ) (d : ObjectStart) → k < length starts → is_referred words (get_or starts k d).index (get_or starts k d).kind ≡ true →
        hint_of hints ((get_or starts k d).index / 2) ≡ true
    by_hint k d l hit =
        let long = length-map starts found_at in
        let at = get_or-map found_at starts k d (found_at d) l in
        let here = can.hinted k (found_at d) (omega (arith, long, l)) in
        subst (λ (f : Found). is_referred words f.index f.kind ≡ true → hint_of hints (f.index / 2) ≡ true) at here hit

-- the flags of a page, taken out of all
pub flags-of-page : (hints flags : List Bool) (page : ℕ) → flags ≡ hints → 256 * page + 256 ≤ length hints →
    ((i : ℕ) → i < length (take (256 * page + 256 - 256 * page) (drop (256 * page) flags)) → hint_of (take (256 * page + 256 - 256 * page) (drop (256 * page) flags)) i ≡ false) →
    (k : ℕ) → 256 * page ≤ k → k < 256 * page + 256 → hint_of hints k ≡ false
flags-of-page hints flags page same inside none k low high =
    let at : 256 * page + (k - 256 * page) ≡ k = omega (arith, low) in
    let count : 256 * page + 256 - 256 * page ≡ 256 = omega arith in
    let whole = ap length same in
    let rest = length-drop (256 * page) flags in
    let long = length-take-le (256 * page + 256 - 256 * page) (drop (256 * page) flags) (omega (arith, rest, inside, whole)) in
    let here = none (k - 256 * page) (omega (arith, long, low, high)) in
    sym (ap (λ (hs : List Bool). hint_of hs k) same)
    ∙ sym (ap (λ (i : ℕ). hint_of flags i) at)
    ∙ sym (get_or-drop (256 * page) flags (k - 256 * page) false)
    ∙ sym (get_or-take (256 * page + 256 - 256 * page) (drop (256 * page) flags) (k - 256 * page) false (omega (arith, low, high)))
    ∙ here
