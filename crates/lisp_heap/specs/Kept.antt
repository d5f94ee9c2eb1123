-- How many words the objects take that a pass kept, as they lie after it.
use Rattle.std.specs.Prelude.{◌≡◌, ℕ, ◌+◌, ◌<◌, ◌≤◌, List, length, All, slice_index, unwrap_or}
use Rattle.std.specs.List.{sum_by}
use Rattle.heap_terms.specs.declared.events.PassRecord.{PassRecord}
use Rattle.heap_terms.specs.declared.events.PinAt.{PinAt}
use Rattle.heap_terms.specs.declared.events.Placing.{Placing}
use Rattle.heap_terms.specs.declared.kinds.Kind.{Kind}
use Rattle.heap_terms.specs.declared.limits.TheConstants.{MOST_COMMANDS}
use Rattle.heap_terms.specs.Generations.{words_taken}
use Rattle.heap_terms.specs.Heap.{NamedHeap, object_at}
use Rattle.heap_terms.specs.LaidOut.{BeginsWith}
use Rattle.heap_terms.specs.Layout.{size_of}

-- an object of a size begins at an index
pub record IsSizeAt (words : List ℕ) (index size : ℕ) : Type 0 where
  pub inside : index < length words
  pub kind : Kind
  pub n : ℕ
  pub begins : BeginsWith kind n (slice_index words index)
  pub size_is : size ≡ size_of kind n

abbrev pub HasSizeAt : List ℕ → ℕ → Type 0
HasSizeAt words index = (size : ℕ) × IsSizeAt words index size

-- where an object of a record's moves is after the pass
abbrev pub place_then : Placing → ℕ
place_then m = unwrap_or m.new m.old

-- the words of the objects that a record moves and pins, by the heap before the pass
abbrev pub moved_size : NamedHeap → Placing → ℕ
moved_size a m = words_taken (object_at a.objects m.name)

abbrev pub pinned_size : NamedHeap → PinAt → ℕ
pinned_size a q = words_taken (object_at a.objects q.name)

-- the objects that a record lists lie among these words with the sizes that they had in a heap, and are not too many
pub record KeptLie (a : NamedHeap) (words : List ℕ) (r : PassRecord) : Type 0 where
  pub moves : All (λ (m : Placing). IsSizeAt words (place_then m) (moved_size a m)) r.moves
  pub pins : All (λ (q : PinAt). IsSizeAt words q.index (pinned_size a q)) r.pins
  pub few_moves : length r.moves ≤ MOST_COMMANDS
  pub few_pins : length r.pins ≤ MOST_COMMANDS

abbrev pub listed_words : NamedHeap → PassRecord → ℕ
listed_words a r = sum_by (moved_size a) r.moves + sum_by (pinned_size a) r.pins
