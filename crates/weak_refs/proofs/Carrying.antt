-- The words after the pass are given to one object after another: what was done stays, and what is to come is as it was.
use Rattle.std.proofs.Common.{◌≡◌, ◌≢◌, ℕ, suc, ◌+◌, ◌<◌, List, length, Option, Some, None, inl, inr, refl, sym, ◌∙◌, ap, subst, arith}
use Rattle.std.proofs.lemmas.Bool.{cases_eq, cases_lt}
use Rattle.std.proofs.lemmas.Option.{same_Some}
use Rattle.std.specs.Prelude.{AllPairs, IfSome, slice_index}
use Rattle.heap_terms.specs.declared.kinds.Kind.{Kind}
use Rattle.heap_terms.specs.Heap.{NamedHeap, object_at}
use Rattle.heap_terms.specs.Objects.{Object, words_of_object}
use Rattle.heap_terms.specs.Slots.{Slot, Raw, Val, Side, Kept, slot_at}
use Rattle.heap_terms.specs.Stands.{StandsFor}
use Rattle.heap_terms.specs.Survival.{surviving}
use Rattle.pass_laws.proofs.AfterPages.{surviving-kind, surviving-payload}
use Rattle.pass_laws.proofs.AfterPass.{IsShaped-surviving}
use Rattle.pass_laws.proofs.Sizes.{words_least}
use Rattle.copy_space.specs.Midway.{IsPlacedSoFar, StandsMidway as SlotMidway}
use Rattle.copy_space.specs.Moved.{new_of, objects_now}
use Rattle.copy_space.specs.Settled.{is_settled}
use Rattle.copy_space.specs.State.{CopyState}
use Rattle.copy_space.proofs.Places.{now_apart}
use Rattle.copy_space.proofs.Referents.{ms, its}
use Rattle.copy_space.proofs.Shapes.{slot-below}
use Rattle.copy_space.specs.Surviving.{StandsAfter}
use Rattle.weak_refs.specs.Rewriting.{IsWeakStart, IsIn, IsInSome, IsRewritten, AreRewritten}

-- a state with other words
abbrev pub over : CopyState → List ℕ → CopyState
over s w = record s { words = w }

-- a word that stands midway for a slot stands so in a state with other words
pub slot-over : (a : NamedHeap) (s : CopyState) (w : List ℕ) (slot : Slot) (old new : ℕ) → new ≡ old → SlotMidway a s slot old → SlotMidway a (over s w) slot new
slot-over a s w slot old new same stood = subst (λ (x : ℕ). SlotMidway a (over s w) slot x) (sym same) (go slot stood)
  where
    go : (slot : Slot) → SlotMidway a s slot old → SlotMidway a (over s w) slot old
    go (Raw r) e = e
    go (Val v) (inl e) = inl e
    go (Val v) (inr e) = inr (record { settled = e.settled; is = e.is })
    go (Side v) e = e
    go Kept e = tt

-- nothing rewritten yet
pub rewritten-none : (a : NamedHeap) (s : CopyState) (kind : Kind) (starts : List ℕ) → IsPlacedSoFar a s → AreRewritten a s s kind starts 0
rewritten-none a s kind starts places = record {
  same = refl;
  places = places;
  after = λ k name o l. absurd (omega (arith, l));
  others = λ index out. refl;
}

-- slots of what survives lie in the object
survivor_below : (a : NamedHeap) (s : CopyState) (h : IsPlacedSoFar a s) (name : ℕ) (o : Object) → object_at a.objects name ≡ Some o → (i : ℕ) (slot : Slot) →
    slot_at (surviving (is_settled a s) o.contents) i ≡ Some slot → i < words_of_object o
survivor_below a s h name o there i slot e =
    let shape = IsShaped-surviving (is_settled a s) o.contents (h.sound.objects name o there).shape in
    let below = slot-below (surviving (is_settled a s) o.contents) shape i slot e in
    rw (surviving-payload (is_settled a s) o.contents, surviving-kind (is_settled a s) o.contents) at below

if-some : (q : Option Slot) (P Q : Slot → Type 0) → ((slot : Slot) → q ≡ Some slot → P slot → Q slot) → IfSome q P → IfSome q Q
if-some None P Q go h = tt
if-some (Some slot) P Q go h = go slot refl h

-- an object whose words are the same stands as it did
pub after-same : (a : NamedHeap) (s r t : CopyState) (h : IsPlacedSoFar a s) (name : ℕ) (o : Object) → object_at a.objects name ≡ Some o →
    ((i : ℕ) → i < words_of_object o → slice_index t.words (new_of s.moves o.place + i) ≡ slice_index r.words (new_of s.moves o.place + i)) →
    StandsAfter a s r o → StandsAfter a s t o
after-same a s r t h name o there same was = record {
  slots = λ i. if-some (slot_at (surviving (is_settled a s) o.contents) i)
      (λ slot. StandsFor (objects_now a s.moves) slot (slice_index r.words (new_of s.moves o.place + i)))
      (λ slot. StandsFor (objects_now a s.moves) slot (slice_index t.words (new_of s.moves o.place + i)))
      (λ slot e stood. subst (λ (w : ℕ). StandsFor (objects_now a s.moves) slot w) (sym (same i (survivor_below a s h name o there i slot e))) stood)
      (was.slots i);
  kept = λ i e. same i (survivor_below a s h name o there i Kept e) ∙ was.kept i e;
}

module _ (a : NamedHeap) (s : CopyState) (h : IsPlacedSoFar a s) (kind : Kind) where
  -- a word of an object that stands elsewhere is none of one at a start
  pub elsewhere : (start name : ℕ) (o : Object) → object_at a.objects name ≡ Some o → new_of s.moves o.place ≢ start → (i : ℕ) → i < words_of_object o →
      ¬ IsIn a s kind start (new_of s.moves o.place + i)
  elsewhere start name o there apart i l is =
      let here = is.here in
      let from = is.from in
      let below = is.below in
      elim (cases_eq name is.name) [
        | inl same ↦ apart (ap (λ (q : Object). new_of s.moves q.place) (same_Some-object name is.name o is.o there is.there same) ∙ is.here)
        | inr other ↦ elim (now_apart a s (ms a s h) h.sound (its a s h) name is.name o is.o other there is.there) [ inl m ↦ absurd (omega arith) | inr m ↦ absurd (omega arith) ]
      ]
    where
      same_Some-object : (x y : ℕ) (p q : Object) → object_at a.objects x ≡ Some p → object_at a.objects y ≡ Some q → x ≡ y → p ≡ q
      same_Some-object x y p q e f is = same_Some p q (sym e ∙ subst (λ (z : ℕ). object_at a.objects z ≡ Some q) (sym is) f)

  apart-starts : (starts : List ℕ) → AllPairs (λ (x y : ℕ). x ≢ y) starts → (i j : ℕ) → i < j → j < length starts → slice_index starts i ≢ slice_index starts j
  apart-starts starts once i j l m = once i j 0 l m

  module _ (starts : List ℕ) (once : AllPairs (λ (x y : ℕ). x ≢ y) starts) (n : ℕ) (inside : n < length starts) where
    -- what stands at start n is none of what stands at those before it
    pub not_yet : (name : ℕ) (o : Object) → object_at a.objects name ≡ Some o → new_of s.moves o.place ≡ slice_index starts n → (i : ℕ) → i < words_of_object o →
        ¬ IsInSome a s kind starts n (new_of s.moves o.place + i)
    not_yet name o there here i l is =
        elsewhere (slice_index starts is.k) name o there (λ same. apart-starts starts once is.k n is.first inside (sym same ∙ here)) i l is.is

    done_before : (w : List ℕ) (t : CopyState) → AreRewritten a s (over s w) kind starts n → IsRewritten a (over s w) t kind (slice_index starts n) →
        AreRewritten a s t kind starts (suc n)
    done_before w t was one = record {
      same = one.same;
      places = one.places;
      after = λ k name o l there settled here is. (elim (cases_lt k n) [
        | inl before ↦ after-same a s (over s w) t h name o there
            (λ i m. one.others (new_of s.moves o.place + i) (λ into. elsewhere (slice_index starts n) name o there
            (λ same. apart-starts starts once k n before inside (sym here ∙ same)) i m
            (record { name = into.name; o = into.o; there = into.there; settled = into.settled; here = into.here; is_kind = into.is_kind; from = into.from; below = into.below })))
            (was.after k name o before there settled here is)
        | inr now ↦ (let k_is : k ≡ n = omega arith in
            let stands = one.after name o there settled (here ∙ ap (λ (j : ℕ). slice_index starts j) k_is) is in
            record { slots = stands.slots; kept = stands.kept })
      ]);
      others = λ index out. one.others index (λ into. out (record {
        k = n;
        first = omega arith;
        is = record { name = into.name; o = into.o; there = into.there; settled = into.settled; here = into.here; is_kind = into.is_kind; from = into.from; below = into.below };
      })) ∙ was.others index (λ into. out (record { k = into.k; first = (let l = into.first in omega arith); is = into.is }));
    }

    -- one more
    pub rewritten-on : (r t : CopyState) → AreRewritten a s r kind starts n → IsRewritten a r t kind (slice_index starts n) → AreRewritten a s t kind starts (n + 1)
    rewritten-on r t was one =
        let up : suc n ≡ n + 1 = omega arith in
        subst (λ (k : ℕ). AreRewritten a s t kind starts k) up
        (subst (λ (x : CopyState). AreRewritten a s x kind starts n → IsRewritten a x t kind (slice_index starts n) → AreRewritten a s t kind starts (suc n))
        (sym was.same) (done_before r.words t) was one)

    still_start : (w : List ℕ) → AreRewritten a s (over s w) kind starts n → IsWeakStart a s kind (slice_index starts n) → IsWeakStart a (over s w) kind (slice_index starts n)
    still_start w was start =
        let at = start.at in
        let word : (i : ℕ) → i < words_of_object at.o → slice_index w (new_of s.moves at.o.place + i) ≡ slice_index s.words (new_of s.moves at.o.place + i) =
        λ i l. was.others (new_of s.moves at.o.place + i) (not_yet start.name at.o at.there at.here i l) in
        let least = words_least at.o in
        let none : new_of s.moves at.o.place + 0 ≡ slice_index starts n = (let here = at.here in omega arith) in
        record {
          name = start.name;
          at = record { o = at.o; there = at.there; settled = at.settled; here = at.here; weak = at.weak };
          header = subst (λ (i : ℕ). slice_index w i ≡ slice_index s.words i) none (word 0 (omega arith)) ∙ start.header;
          before = λ is. (let stood = start.before is in record {
            slots = λ i slot e. midway_same i slot (word i (slot-below at.o.contents (h.sound.objects start.name at.o at.there).shape i slot e)) (stood.slots i slot e);
            kept = λ i e. word i (slot-below at.o.contents (h.sound.objects start.name at.o at.there).shape i Kept e) ∙ stood.kept i e;
          });
        }
      where
        midway_same : (i : ℕ) (slot : Slot) → slice_index w (new_of s.moves start.at.o.place + i) ≡ slice_index s.words (new_of s.moves start.at.o.place + i) →
            SlotMidway a s slot (slice_index s.words (new_of s.moves start.at.o.place + i)) → SlotMidway a (over s w) slot (slice_index w (new_of s.moves start.at.o.place + i))
        midway_same i slot same stood = slot-over a s w slot (slice_index s.words (new_of s.moves start.at.o.place + i)) (slice_index w (new_of s.moves start.at.o.place + i)) same stood

    -- what is to come stands as it did
    pub start-waits : (r : CopyState) → AreRewritten a s r kind starts n → IsWeakStart a s kind (slice_index starts n) → IsWeakStart a r kind (slice_index starts n)
    start-waits r was start =
        subst (λ (x : CopyState). AreRewritten a s x kind starts n → IsWeakStart a s kind (slice_index starts n) → IsWeakStart a x kind (slice_index starts n))
        (sym was.same) (still_start r.words) was start
