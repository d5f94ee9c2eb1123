-- What a word hits, by the words and by the heap for which they stand.
use Rattle.std.proofs.Common.{◌≡◌, ℕ, ◌+◌, ◌*◌, ◌/◌, ◌%◌, ◌<◌, ◌≤◌, List, [], ◌∷◌, length, Option, Some, None, Bool, true, false, IfSome, IsNone, inl, inr, refl, sym, ◌∙◌, subst, ap, arith}
use Rattle.std.proofs.lemmas.Bool.{cases_lt, eq-eqb, eqb-true, false≢true}
use Rattle.std.proofs.lemmas.List.{get_or_past}
use Rattle.std.proofs.lemmas.List.Elements.{All-contains}
use Rattle.std.proofs.lemmas.Option.{same_Some}
use Rattle.std.specs.Prelude.{Contains, ◌==◌}
use Rattle.std.specs.Bool.{then_some}
use Rattle.heap_terms.specs.declared.kinds.Kind.{Kind}
use Rattle.heap_terms.specs.declared.kinds.Kind.TheVariants as kinds
use Rattle.heap_terms.specs.declared.limits.TheConstants.{MOST_PAGES}
use Rattle.heap_terms.specs.declared.pages.Entry.{Entry}
use Rattle.heap_terms.specs.declared.pages.Entry.TheVariants.{Free}
use Rattle.heap_terms.specs.Heap.{NamedHeap, object_at, entry_at}
use Rattle.heap_terms.specs.LaidOut.{Piece, Fillers, Whole, AreLaidOut, laid_words, ObjectStart, object_starts, start_of, HasObject, StartsAt}
use Rattle.heap_terms.specs.Layout.{size_of, reference_word}
use Rattle.heap_terms.specs.Objects.{Object, kind_of}
use Rattle.heap_terms.specs.Sound.{IsSound}
use Rattle.heap_terms.specs.Stands.{WordsStand}
use Rattle.lisp_words.specs.declared.pointers.Lowtag.{Lowtag}
use Rattle.lisp_words.specs.Tagged.{IsTagged}
use Rattle.object_walk.specs.declared.found.Found.{Found}
use Rattle.object_walk.specs.Walks.{found_at, IsFoundAt}
use Rattle.object_walk.proofs.Searched.{contains_cases, contains_none}
use Rattle.ambiguous_roots.specs.Hits.{HitsStart, IsHitAt, IsHitOf}
use Rattle.ambiguous_roots.proofs.PageStep.{on-page, met-of}
use Rattle.ambiguous_roots.proofs.Pointing.{tagged_reference, not_both}

size_even : (kind : Kind) (n : ℕ) → size_of kind n % 2 ≡ 0
size_even kinds.Cons n = refl
size_even kinds.Vector n = omega arith
size_even kinds.Instance n = omega arith
size_even kinds.Closure n = omega arith
size_even kinds.Words n = omega arith
size_even kinds.Weak n = omega arith
size_even kinds.Table n = omega arith

pieces_even : (from : ℕ) (pieces : List Piece) (s : ObjectStart) → from % 2 ≡ 0 → Contains (object_starts from pieces) s → s.index % 2 ≡ 0
pieces_even from [] s even c = absurd (contains_none s c)
pieces_even from (Fillers ∷ pieces) s even c = pieces_even (from + 2) pieces s (omega arith) c
pieces_even from (Whole kind n ∷ pieces) s even c = elim (contains_cases s (record { index = from; kind = kind; n = n }) (object_starts (from + size_of kind n) pieces) c) [
  | inl same ↦ ap (λ (t : ObjectStart). t.index % 2) (sym same) ∙ even
  | inr later ↦ (let size = size_even kind n in pieces_even (from + size_of kind n) pieces s (omega arith) later)
]

no_piece : (words : List ℕ) (from : ℕ) (pieces : List Piece) (s : ObjectStart) → AreLaidOut words from (from + 0) pieces → Contains (object_starts from pieces) s → ⊥
no_piece words from [] s h c = contains_none s c
no_piece words from (p ∷ pieces) s h c = (let never = h.0 in omega arith)

-- an object starts at an even index inside the pages
pub record IsWithin (start : ObjectStart) (pages : List Entry) : Type 0 where
  pub even : start.index % 2 ≡ 0
  pub below : start.index < 512 * length pages

pub start_within : (words : List ℕ) (pages : List Entry) (start : ObjectStart) → StartsAt words pages start → IsWithin start pages
start_within words pages start h =
    let page = start.index / 512 in
    let objects = h.objects in
    let among : Contains (object_starts (512 * page) objects.pieces) start = subst (λ (xs : List ObjectStart). Contains xs start) objects.starts_are h.among in
    record {
      even = pieces_even (512 * page) objects.pieces start (omega arith) among;
      below = elim (cases_lt page (length pages)) [
        | inl l ↦ omega arith
        | inr past ↦ (let none : laid_words page (entry_at pages page) ≡ 0 = ap (laid_words page) (get_or_past pages page Free past) in
            absurd (no_piece words (512 * page) objects.pieces start (subst (λ (n : ℕ). AreLaidOut words (512 * page) (512 * page + n) objects.pieces) none objects.on_page.laid) among))
      ];
    }

-- so a word that refers to it is tagged
pub hit_tagged : (words : List ℕ) (pages : List Entry) (word : ℕ) (start : ObjectStart) → StartsAt words pages start → word ≡ reference_word start.index start.kind → length pages ≤ MOST_PAGES →
    (tag : Lowtag) × IsTagged word start.index tag
hit_tagged words pages word start h is most = (let within = start_within words pages start h in let below = within.below in tagged_reference word start.index start.kind is within.even (omega arith))

-- what a word was untagged to is where that object starts
pub same_index : (r : Option (ℕ × Lowtag)) (index other : ℕ) (tag mark : Lowtag) → r ≡ Some (index, tag) → r ≡ Some (other, mark) → other ≡ index
same_index r index other tag mark one two =
    let p : ℕ × Lowtag = (other, mark) in
    let q : ℕ × Lowtag = (index, tag) in
    ap (λ (x : ℕ × Lowtag). x.0) (same_Some p q (sym two ∙ one))

-- the object that was found has the word where their kinds have
pub kept_hit : (words : List ℕ) (pages : List Entry) (word index : ℕ) (f : Found) (r : Option ℕ) → IsFoundAt words pages index f → r ≡ then_some (reference_word index f.kind == word) index →
    IfSome r (HitsStart words pages word)
kept_hit words pages word index f r found is = go (reference_word index f.kind == word) refl
  where
    its : reference_word index f.kind ≡ word → HitsStart words pages word index
    its same = record {
      start = found.start;
      starts = found.starts;
      here = found.here;
      is = sym same ∙ ap (λ (x : Found). reference_word index x.kind) found.is ∙ ap (λ (i : ℕ). reference_word i found.start.kind) (sym found.here);
    }

    go : (b : Bool) → (reference_word index f.kind == word) ≡ b → IfSome r (HitsStart words pages word)
    go true e = subst (λ (x : Option ℕ). IfSome x (HitsStart words pages word)) (sym (is ∙ ap (λ (b : Bool). then_some b index) e)) (its (eqb-true (reference_word index f.kind) word e))
    go false e = subst (λ (x : Option ℕ). IfSome x (HitsStart words pages word)) (sym (is ∙ ap (λ (b : Bool). then_some b index) e)) tt

pub only_hit : (word index : ℕ) (start : ObjectStart) (f : Found) (r : Option ℕ) → start.index ≡ index → Some f ≡ Some (found_at start) → word ≡ reference_word start.index start.kind →
    r ≡ then_some (reference_word index f.kind == word) index → r ≡ Some start.index
only_hit word index start f r here same is answer =
    let equal : f ≡ found_at start = cc in
    let yes : (reference_word index f.kind == word) ≡ true =
    eq-eqb (reference_word index f.kind) word (ap (λ (x : Found). reference_word index x.kind) equal ∙ ap (λ (i : ℕ). reference_word i start.kind) (sym here) ∙ sym is) in
    answer ∙ ap (λ (b : Bool). then_some b index) yes ∙ ap (λ (i : ℕ). Some i) (sym here)

-- where words stand for a heap, an object starts exactly where one of the heap begins
pub heap_starts : (a : NamedHeap) (words : List ℕ) (pages : List Entry) (name : ℕ) (o : Object) → IsSound a → WordsStand a words → pages ≡ a.pages → object_at a.objects name ≡ Some o →
    StartsAt words pages (start_of o)
heap_starts a words pages name o sound stand same e =
    let page = on-page a words pages (o.place / 512) sound stand same in
    let met = met-of a words pages (o.place / 512) page.starts sound stand same page.on in
    record { starts = page.starts; objects = page.on; among = met.all name o e (omega arith) (omega arith) }

pub starts_heap : (a : NamedHeap) (words : List ℕ) (pages : List Entry) (start : ObjectStart) → IsSound a → WordsStand a words → pages ≡ a.pages → StartsAt words pages start → HasObject a start
starts_heap a words pages start sound stand same h =
    let met = met-of a words pages (start.index / 512) h.starts sound stand same h.objects in
    (All-contains (λ (s : ObjectStart). HasObject a s × (512 * (start.index / 512) ≤ s.index) × (s.index < 512 * (start.index / 512 + 1))) h.starts start met.each h.among).0

-- so the answer by the words is the answer by the heap
pub hit_of : (a : NamedHeap) (words : List ℕ) (pages : List Entry) (word : ℕ) (r : Option ℕ) → IsSound a → WordsStand a words → pages ≡ a.pages → IfSome r (HitsStart words pages word) →
    ((start : ObjectStart) → StartsAt words pages start → word ≡ reference_word start.index start.kind → r ≡ Some start.index) → IsHitOf a word r
hit_of a words pages word r sound stand same found only = record {
  object = by r found;
  met = λ name o e hit. only (start_of o) (heap_starts a words pages name o sound stand same e) (eqb-true word (reference_word o.place (kind_of o.contents)) hit);
}
  where
    by : (r : Option ℕ) → IfSome r (HitsStart words pages word) → IfSome r (IsHitAt a word)
    by None h = tt
    by (Some index) h =
        let has = starts_heap a words pages h.start sound stand same h.starts in
        record {
          name = has.0;
          o = has.1;
          there = has.2;
          here = sym (ap (λ (s : ObjectStart). s.index) has.3) ∙ h.here;
          hit = eq-eqb word (reference_word has.1.place (kind_of has.1.contents)) (h.is ∙ ap (λ (s : ObjectStart). reference_word s.index s.kind) has.3);
        }

-- none where no object is hit
pub none_hit : (r : Option ℕ) (index : ℕ) → IsNone r → r ≡ Some index → ⊥
none_hit None index none e = not_both None index refl e
none_hit (Some i) index none e = false≢true (sym none)
