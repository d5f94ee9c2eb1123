-- What one turn of a thread needs, and what an event inside its section does. This project's own.
use Rattle.std.specs.Prelude.{◌≡◌, ℕ, ◌<◌, length, Bool, true, false}
use Rattle.heap_terms.specs.Heap.{thread_at}
use Rattle.heap_terms.specs.MachineTurns.{stays_inside}
use Rattle.heap_terms.specs.Phases.{collects, is_over}
use Rattle.lisp_heap.specs.Events.{Happens}
use Rattle.lisp_heap.specs.View.{View, heap_of, next_of}

-- one event of thread t happened inside its section, which goes on or is to be left
pub record HappensInside (t : ℕ) (old new : View) (stays : Bool) : Type 0 where
  pub happens : Happens t old new
  pub goes_on : stays ≡ stays_inside (heap_of new) happens.event

-- no thread inhibits collections
abbrev pub NoneInhibits : View → Type 0
NoneInhibits w = (t : ℕ) → (thread_at (heap_of w) t).inhibits ≡ 0

-- a thread may have the next event: it has something left to do, and where that is a collection nobody inhibits
pub record MayGo (w : View) (t : ℕ) : Type 0 where
  pub thread : t < length w.program.threads
  pub alive : is_over (next_of w t) ≡ false
  pub allowed : collects (next_of w t) ≡ true → NoneInhibits w
