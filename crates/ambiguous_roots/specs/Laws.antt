-- What ties the two calls together: the pins are what the single words hit, of the generation.
use Rattle.std.specs.Prelude.{◌≡◌, ℕ, ◌<◌, ◌↔◌, List, length, Option, Some, true, nat_eq, slice_index}
use Rattle.std.specs.List.{list_any}
use Rattle.heap_terms.specs.Generations.{is_of}
use Rattle.heap_terms.specs.Heap.{NamedHeap, object_at}
use Rattle.heap_terms.specs.Objects.{Object}
use Rattle.heap_terms.specs.Sound.{IsSound}
use Rattle.ambiguous_roots.specs.HitStarts.{AreHitStarts}
use Rattle.ambiguous_roots.specs.Hits.{IsHitOf}

-- an object of a generation begins at an index, where some word of a list has that index as its answer
pub record IsAnswered (a : NamedHeap) (g : ℕ) (words : List ℕ) (answer : ℕ → Option ℕ) (index : ℕ) : Type 0 where
  pub name : ℕ
  pub o : Object
  pub there : object_at a.objects name ≡ Some o
  pub here : o.place ≡ index
  pub of_it : is_of a g name ≡ true
  pub k : ℕ
  pub below : k < length words
  pub answered : answer (slice_index words k) ≡ Some index

-- an index is among the starts exactly where it is the answer for some word, and the object there is of the generation
abbrev pub PinsAreHits : Type 0
PinsAreHits = (a : NamedHeap) (g : ℕ) (words starts : List ℕ) (answer : ℕ → Option ℕ) → IsSound a → ((word : ℕ) → IsHitOf a word (answer word)) →
    AreHitStarts a g words starts → (index : ℕ) → (list_any (nat_eq index) starts ≡ true) ↔ IsAnswered a g words answer index
