-- Short words for the examples: a program, the heap at a collection, and the parts of a record.
use Rattle.std.specs.Prelude.{ℕ, List, [], Some, None}
use Rattle.heap_terms.specs.declared.cells.Value.{Value}
use Rattle.heap_terms.specs.declared.commands.Command.{Command}
use Rattle.heap_terms.specs.declared.events.Cull.{Cull}
use Rattle.heap_terms.specs.declared.events.Event.{Event}
use Rattle.heap_terms.specs.declared.events.PassRecord.{PassRecord}
use Rattle.heap_terms.specs.declared.events.PinAt.{PinAt}
use Rattle.heap_terms.specs.declared.events.Placing.{Placing}
use Rattle.heap_terms.specs.declared.programs.Program.{Program}
use Rattle.heap_terms.specs.Collections.{closed}
use Rattle.heap_terms.specs.Heap.{NamedHeap}
use Rattle.heap_terms.specs.Histories.{replay}

-- a program of some pages whose threads have these commands
abbrev pub program : ℕ → List (List Command) → Program
program pages scripts = record { pages = pages; auto = 0; threads = scripts; schedule = [] }

-- the heap with which a collection begins after a history
abbrev pub heap_at : Program → List Event → NamedHeap
heap_at p h = closed (replay p h)

-- a record in which nothing happens
abbrev pub quiet : ℕ → ℕ → PassRecord
quiet g h = record {
  generation = g;
  target = h;
  moves = [];
  pins = [];
  culls = [];
  breaks = [];
  queued = [];
  freed = [];
  dead = 0;
  kept = 0;
}

abbrev pub moved : ℕ → ℕ → ℕ → Placing
moved name old new = record { name = name; old = old; new = Some new }

abbrev pub stayed : ℕ → ℕ → Placing
stayed name index = record { name = name; old = index; new = None }

abbrev pub pinned : ℕ → ℕ → PinAt
pinned name index = record { name = name; index = index }

abbrev pub culled : ℕ → Value → Value → Cull
culled table key value = record { table = table; key = key; value = value }
