-- The objects of a heap on a stretch of words, taken one after another.
use Rattle.std.proofs.Common.{ℕ, suc, ◌<◌, ◌≤◌, List, [], ◌∷◌, inl, inr, ap, arith}
use Rattle.std.proofs.lemmas.List.Elements.{All-head, All-tail, All-contains}
use Rattle.std.specs.Prelude.{All, AllPairs}
use Rattle.heap_terms.specs.Heap.{NamedHeap}
use Rattle.heap_terms.specs.LaidOut.{ObjectStart, HasObject, AreHeapsObjects, start_of}
use Rattle.object_walk.specs.Laws.{BeginsNoneIn, IsFirstObject}
use Rattle.object_walk.proofs.Searched.{contains_cases, contains_none}

-- those behind the first have higher indices
ascends : (first : ObjectStart) (others : List ObjectStart) → AllPairs (λ (s t : ObjectStart). s.index < t.index) (first ∷ others) →
    All (λ (s : ObjectStart). first.index < s.index) others
ascends first others h k d inside = h 0 (suc k) d (omega arith) (omega arith)

pub first_object : (a : NamedHeap) (from end : ℕ) (first : ObjectStart) (others : List ObjectStart) → AreHeapsObjects a from end (first ∷ others) →
    IsFirstObject a from end first others
first_object a from end first others h =
    let P = λ (s : ObjectStart). HasObject a s × (from ≤ s.index) × (s.index < end) in
    let here = All-head P first others h.each in
    let rest = All-tail P first others h.each in
    let higher = ascends first others h.ascending in
    record {
      there = here.0;
      from_on = here.1;
      below = here.2;
      before = λ name o there low high. elim (contains_cases (start_of o) first others (h.all name o there low (omega (arith, here.2)))) [
        | inl same ↦ omega (arith, ap (λ (s : ObjectStart). s.index) same, high)
        | inr later ↦ omega (arith, All-contains (λ (s : ObjectStart). first.index < s.index) others (start_of o) higher later, high)
      ];
      behind = record {
        each = λ k d inside. (let one = rest k d inside in (one.0, omega (arith, higher k d inside), one.2));
        all = λ name o there low high. elim (contains_cases (start_of o) first others (h.all name o there (omega (arith, low, here.1)) high)) [
          | inl same ↦ absurd (omega (arith, ap (λ (s : ObjectStart). s.index) same, low))
          | inr later ↦ later
        ];
        ascending = λ i j d lt inside. h.ascending (suc i) (suc j) d (omega arith) (omega arith);
      };
    }

pub no_object : (a : NamedHeap) (from end : ℕ) → AreHeapsObjects a from end [] → BeginsNoneIn a from end
no_object a from end h name o there low high = contains_none (start_of o) (h.all name o there low high)
