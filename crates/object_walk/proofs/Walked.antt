-- One step of a walk: over a pair of fillers, or to an object.
use Rattle.std.proofs.Common.{◌≡◌, ◌≢◌, ℕ, ◌+◌, ◌%◌, ◌<◌, ◌≤◌, List, [], ◌∷◌, Option, Some, None, refl, sym, ◌∙◌, ap, arith}
use Rattle.std.specs.Prelude.{slice_index, IfSome, unwrap_or}
use Rattle.heap_terms.specs.declared.kinds.Kind.{Kind}
use Rattle.heap_terms.specs.declared.kinds.Kind.TheVariants as kinds
use Rattle.heap_terms.specs.declared.limits.TheConstants.{MOST_ELEMENTS}
use Rattle.heap_terms.specs.Layout.{filler_word, size_of, header_of}
use Rattle.heap_terms.specs.LaidOut.{Piece, Fillers, Whole, BeginsWith, AreLaidOut}
use Rattle.lisp_words.specs.Tagged.{IsHeader}
use Rattle.object_walk.specs.declared.found.Found.{Found}
use Rattle.object_walk.specs.Walks.{found_left, found_at, IsWalk, IsFirstWord}
use Rattle.object_walk.proofs.Pieces.{left_told}

-- the first word of an object is no filler, and the number of its words of payload is small
pub not_filler : (kind : Kind) (n word : ℕ) → BeginsWith kind n word → word ≢ filler_word
not_filler kinds.Cons n word h e = h.1 (rw e refl)
not_filler kinds.Vector n word h e = omega (arith, h.0)
not_filler kinds.Instance n word h e = omega (arith, h.0)
not_filler kinds.Closure n word h e = omega (arith, h.0)
not_filler kinds.Words n word h e = omega (arith, h.0)
not_filler kinds.Weak n word h e = omega (arith, h.0)
not_filler kinds.Table n word h e = omega (arith, h.0)

pub payload_most : (kind : Kind) (n word : ℕ) → BeginsWith kind n word → n ≤ MOST_ELEMENTS
payload_most kinds.Cons n word h = omega (arith, h.0)
payload_most kinds.Vector n word h = h.1
payload_most kinds.Instance n word h = h.1
payload_most kinds.Closure n word h = h.1
payload_most kinds.Words n word h = h.1
payload_most kinds.Weak n word h = h.1
payload_most kinds.Table n word h = h.1

pub size_most : (kind : Kind) (n : ℕ) → n ≤ MOST_ELEMENTS → size_of kind n ≤ 65536
size_most kinds.Cons n h = omega arith
size_most kinds.Vector n h = omega arith
size_most kinds.Instance n h = omega arith
size_most kinds.Closure n h = omega arith
size_most kinds.Words n h = omega arith
size_most kinds.Weak n h = omega arith
size_most kinds.Table n h = omega arith

-- a header is 1 modulo 4
header_one : (word : ℕ) (kind : Kind) (n : ℕ) → IsHeader word kind n → word % 4 ≡ 1
header_one word kinds.Cons n h = absurd (h.headed refl)
header_one word kinds.Vector n h = omega (arith, h.word_is)
header_one word kinds.Instance n h = omega (arith, h.word_is)
header_one word kinds.Closure n h = omega (arith, h.word_is)
header_one word kinds.Words n h = omega (arith, h.word_is)
header_one word kinds.Weak n h = omega (arith, h.word_is)
header_one word kinds.Table n h = omega (arith, h.word_is)

-- what a header's reading answers is the kind and the payload of the object that its word begins
value_read : (word : ℕ) (r : Option (Kind × ℕ)) → word % 4 ≢ 1 → IfSome r (λ found. IsHeader word found.0 found.1) → unwrap_or r (kinds.Cons, 2) ≡ (kinds.Cons, 2)
value_read word None value h = refl
value_read word (Some (kind, n)) value h = absurd (value (header_one word kind n h))

header_read : (word : ℕ) (r : Option (Kind × ℕ)) (kind : Kind) (n : ℕ) → kind ≢ kinds.Cons → (word ≡ header_of kind n) × (n ≤ MOST_ELEMENTS) →
    ((kind : Kind) (n : ℕ) → IsHeader word kind n → r ≡ Some (kind, n)) → unwrap_or r (kinds.Cons, 2) ≡ (kind, n)
header_read word r kind n headed h only =
    let is : r ≡ Some (kind, n) = only kind n (record { headed = headed; below = omega (arith, h.1); word_is = h.0 }) in
    rw is refl

pub first_read : (word : ℕ) (r : Option (Kind × ℕ)) → IfSome r (λ found. IsHeader word found.0 found.1) →
    ((kind : Kind) (n : ℕ) → IsHeader word kind n → r ≡ Some (kind, n)) → (kind : Kind) (n : ℕ) → BeginsWith kind n word →
    unwrap_or r (kinds.Cons, 2) ≡ (kind, n)
first_read word r some only kinds.Cons n h = value_read word r h.1 some ∙ ap (λ (m : ℕ). (kinds.Cons, m)) (sym h.0)
first_read word r some only kinds.Vector n h = header_read word r kinds.Vector n (λ e. cc) h only
first_read word r some only kinds.Instance n h = header_read word r kinds.Instance n (λ e. cc) h only
first_read word r some only kinds.Closure n h = header_read word r kinds.Closure n (λ e. cc) h only
first_read word r some only kinds.Words n h = header_read word r kinds.Words n (λ e. cc) h only
first_read word r some only kinds.Weak n h = header_read word r kinds.Weak n (λ e. cc) h only
first_read word r some only kinds.Table n h = header_read word r kinds.Table n (λ e. cc) h only

-- the walk goes over a pair of fillers
pub record IsSkipped (words : List ℕ) (from end : ℕ) : Type 0 where
  pub left : found_left words from end ≡ found_left words (from + 2) end
  pub walk : IsWalk words (from + 2) end

skipped : (words : List ℕ) (from end : ℕ) (pieces : List Piece) → AreLaidOut words from end pieces → IsWalk words from end → from < end →
    slice_index words from ≡ filler_word → IsSkipped words from end
skipped words from end [] h w below filler = absurd (omega arith)
skipped words from end (Fillers ∷ pieces) h w below filler = record {
  left = left_told words from end (Fillers ∷ pieces) h ∙ sym (left_told words (from + 2) end pieces h.2);
  walk = record { pieces = pieces; laid = h.2; inside = w.inside; most = w.most };
}
skipped words from end (Whole kind n ∷ pieces) h w below filler = absurd (not_filler kind n (slice_index words from) h.1 filler)

pub walk_skips : (words : List ℕ) (from end : ℕ) → IsWalk words from end → from < end → slice_index words from ≡ filler_word → IsSkipped words from end
walk_skips words from end w = skipped words from end w.pieces w.laid w

-- the walk finds an object
pub record IsMet (words : List ℕ) (from end : ℕ) : Type 0 where
  pub kind : Kind
  pub n : ℕ
  pub begins : BeginsWith kind n (slice_index words from)
  pub left : found_left words from end ≡ found_at (record { index = from; kind = kind; n = n }) ∷ found_left words (from + size_of kind n) end
  pub walk : IsWalk words (from + size_of kind n) end
  pub small : size_of kind n ≤ 65536

met : (words : List ℕ) (from end : ℕ) (pieces : List Piece) → AreLaidOut words from end pieces → IsWalk words from end → from < end →
    slice_index words from ≢ filler_word → IsMet words from end
met words from end [] h w below other = absurd (omega arith)
met words from end (Fillers ∷ pieces) h w below other = absurd (other (h.1.0))
met words from end (Whole kind n ∷ pieces) h w below other = record {
  kind = kind;
  n = n;
  begins = h.1;
  left = left_told words from end (Whole kind n ∷ pieces) h
      ∙ ap (λ (fs : List Found). found_at (record { index = from; kind = kind; n = n }) ∷ fs) (sym (left_told words (from + size_of kind n) end pieces h.2));
  walk = record { pieces = pieces; laid = h.2; inside = w.inside; most = w.most };
  small = size_most kind n (payload_most kind n (slice_index words from) h.1);
}

pub walk_meets : (words : List ℕ) (from end : ℕ) → IsWalk words from end → from < end → slice_index words from ≢ filler_word → IsMet words from end
walk_meets words from end w = met words from end w.pieces w.laid w

-- the walk is at its end
ended : (words : List ℕ) (from end : ℕ) (pieces : List Piece) → AreLaidOut words from end pieces → end ≤ from → found_left words from end ≡ []
ended words from end [] h past = left_told words from end [] h
ended words from end (p ∷ pieces) h past = absurd (omega (arith, h.0))

pub walk_ends : (words : List ℕ) (from end : ℕ) → IsWalk words from end → end ≤ from → found_left words from end ≡ []
walk_ends words from end w = ended words from end w.pieces w.laid

-- the same of the object that was read there
pub record IsRead (words : List ℕ) (from end : ℕ) (f : Found) : Type 0 where
  pub left : found_left words from end ≡ f ∷ found_left words (f.index + f.size) end
  pub walk : IsWalk words (f.index + f.size) end
  pub small : f.index + f.size ≤ from + 65536

read_there : (words : List ℕ) (from end : ℕ) (f : Found) (m : IsMet words from end) → f ≡ found_at (record { index = from; kind = m.kind; n = m.n }) →
    IsRead words from end f
read_there words from end f m is = rw is (record { left = m.left; walk = m.walk; small = omega (arith, m.small) })

pub object_read : (words : List ℕ) (from end word : ℕ) (f : Found) → IsMet words from end → word ≡ slice_index words from →
    ((kind : Kind) (n : ℕ) → BeginsWith kind n word → f ≡ found_at (record { index = from; kind = kind; n = n })) → IsRead words from end f
object_read words from end word f m is told = read_there words from end f m (told m.kind m.n (rw is m.begins))

pub first_word : (words : List ℕ) (from end word : ℕ) → IsMet words from end → word ≡ slice_index words from → IsFirstWord word
first_word words from end word m is = record { kind = m.kind; n = m.n; begins = rw is m.begins }
