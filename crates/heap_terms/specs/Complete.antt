-- Complete histories.
use Rattle.std.specs.Prelude.{◌≡◌, ℕ, List, true}
use Rattle.heap_terms.specs.declared.events.Event.{Event}
use Rattle.heap_terms.specs.declared.programs.Program.{Program}
use Rattle.heap_terms.specs.Heap.{thread_at}
use Rattle.heap_terms.specs.Histories.{Lawful, replay}

-- a lawful history at whose end every thread has ended
pub record IsComplete (p : Program) (h : List Event) : Type 0 where
  pub lawful : Lawful p h
  pub ended : (t : ℕ) → (thread_at (replay p h) t).ended ≡ true
