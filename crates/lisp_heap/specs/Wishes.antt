-- What a command wants made, as code tells it.
use Rattle.std.specs.Prelude.{◌<◌, length, Option, Some, None}
use Rattle.std.specs.Option.{ForSome}
use Rattle.heap_terms.specs.declared.commands.Command.{Command}
use Rattle.heap_terms.specs.declared.kinds.PageType.{PageType}
use Rattle.heap_terms.specs.Heap.{NamedHeap}
use Rattle.heap_terms.specs.Regions.{Wish, Nothing, Make}
use Rattle.heap_terms.specs.Valid.{IsInRange}
use Rattle.lisp_heap.specs.State.{state_page}
use Rattle.lisp_heap.specs.declared.parcels.Making.{Making}
use Rattle.lisp_heap.specs.declared.states.ThreadState.{ThreadState}

-- the wish for an object, or for nothing
abbrev pub wish_for : Option Making → Wish
wish_for None = Nothing
wish_for (Some m) = Make m.kind m.n m.seed

-- the open pages and the open run of a state are pages
pub record HasOpen (a : NamedHeap) (state : ThreadState) : Type 0 where
  pub pages : (ty : PageType) → ForSome (state_page state ty) (λ page. page < length a.pages)
  pub run : ForSome state.open_run (λ page. page < length a.pages)

-- a state and a command by which can be told what their thread does next
pub record Wishes (a : NamedHeap) (state : ThreadState) (command : Command) : Type 0 where
  pub regions : HasOpen a state
  pub in_range : IsInRange command
