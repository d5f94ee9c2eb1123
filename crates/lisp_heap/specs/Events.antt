-- What one call does to a World: one event.
use Rattle.std.specs.Prelude.{◌≡◌, ℕ, [], ◌∷◌, ◌++◌}
use Rattle.heap_terms.specs.declared.events.Event.{Event}
use Rattle.heap_terms.specs.Histories.{IsNext, thread_of}
use Rattle.lisp_heap.specs.Standing.{Holds}
use Rattle.lisp_heap.specs.View.{View, heap_of}

-- One event of thread t happened: it could come next, it was appended to the history, the program is the same, and
-- what the World keeps stands for the heap after the event.
pub record Happens (t : ℕ) (old new : View) : Type 0 where
  pub event : Event
  pub thread : thread_of event ≡ t
  pub lawful : IsNext old.program (heap_of old) event
  pub program : new.program ≡ old.program
  pub history : new.history ≡ old.history ++ event ∷ []
  pub stands : Holds (heap_of new) new.parts
