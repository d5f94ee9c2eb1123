-- How many pairs the tables of a heap have.
use Rattle.std.specs.Prelude.{ℕ, ◌≤◌, List, length, Option, Some, None}
use Rattle.std.specs.List.{sum_by}
use Rattle.heap_terms.specs.declared.events.Event.{Event}
use Rattle.heap_terms.specs.declared.programs.Program.{Program}
use Rattle.heap_terms.specs.Heap.{NamedHeap}
use Rattle.heap_terms.specs.Histories.{replay}
use Rattle.heap_terms.specs.Objects.{Object, Contents, ConsOf, VectorOf, InstanceOf, ClosureOf, WordsOf, WeakTo, TableOf}

-- the pairs of an object
abbrev pub pairs_of : Contents → ℕ
pairs_of (ConsOf a b) = 0
pairs_of (VectorOf vs) = 0
pairs_of (InstanceOf vs) = 0
pairs_of (ClosureOf vs) = 0
pairs_of (WordsOf ws) = 0
pairs_of (WeakTo v) = 0
pairs_of (TableOf w b pairs) = length pairs

abbrev pub pairs_in : Option Object → ℕ
pairs_in None = 0
pairs_in (Some o) = pairs_of o.contents

-- and of all objects
abbrev pub pair_count : NamedHeap → ℕ
pair_count a = sum_by pairs_in a.objects

-- they are no more than the events of the history
abbrev pub PairsAreFew : Type 0
PairsAreFew = (p : Program) (history : List Event) → pair_count (replay p history) ≤ length history
