-- How far a page's words have been gone over.
use Rattle.std.specs.Prelude.{◌≡◌, ℕ, ◌+◌, ◌-◌, ◌==◌, ◌<◌, ◌≤◌, ◌⊎◌, List, [], ◌∷◌, map, None, Some, if◌then◌else◌}
use Rattle.std.specs.List.{flat_map, range_with_len}
use Rattle.heap_terms.specs.declared.answers.Item.{Item}
use Rattle.heap_terms.specs.Heap.{NamedHeap, object_at}
use Rattle.heap_terms.specs.LaidOut.{ObjectStart, AreHeapsObjects}
use Rattle.heap_terms.specs.Objects.{Object, words_of_object}
use Rattle.heap_terms.specs.OnPages.{IsOwned}
use Rattle.heap_terms.specs.PageViews.{begun_at, item_from}
use Rattle.object_walk.specs.declared.found.Found.{Found}
use Rattle.object_walk.specs.Walks.{found_at}

-- the item of the words from one index on up to another, which belong to no object; none where there is no such word
abbrev pub gap_between : ℕ → ℕ → List Item
gap_between from to = if from == to then [] else record { name = None; index = from; count = to - from } ∷ []

-- The words from `start` on up to `end` are gone over up to `next`, which no object reaches over: the items so far are those
-- of these words, and left are the objects that begin behind them.
pub record IsSeen (a : NamedHeap) (start end next : ℕ) (left : List Found) (items : List Item) : Type 0 where
  pub starts : List ObjectStart
  pub left_are : left ≡ map found_at starts
  pub objects : AreHeapsObjects a next end starts
  pub low : start ≤ next
  pub high : next ≤ end
  pub edge : (name : ℕ) (o : Object) → object_at a.objects name ≡ Some o → o.place < next → o.place + words_of_object o ≤ next
  pub first : (next ≡ start) ⊎ IsOwned a.objects (next - 1)
  pub items_are : items ≡ flat_map (λ index. item_from a start end index (begun_at a index)) (range_with_len start (next - start))
