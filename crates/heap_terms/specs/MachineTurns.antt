-- Turns of the word machine: each is one word step, or one event of the heap, or nothing.
use Rattle.std.specs.Prelude.{◌≡◌, ℕ, ◌==◌, ◌||◌, not, List, [], ◌∷◌, ◌++◌, length, replicate, slice_index_or, slice_set, Bool, true, false}
use Rattle.heap_terms.specs.declared.events.Event.{Event}
use Rattle.heap_terms.specs.declared.events.Event.TheVariants as events
use Rattle.heap_terms.specs.declared.phases.Phase.{Phase}
use Rattle.heap_terms.specs.declared.phases.Phase.TheVariants.{Parked, Ended}
use Rattle.heap_terms.specs.declared.programs.Program.{Program}
use Rattle.heap_terms.specs.declared.steps.ReplayLine.{ReplayLine}
use Rattle.heap_terms.specs.declared.steps.ReplayLine.TheVariants as replay_lines
use Rattle.heap_terms.specs.declared.steps.StepAnswer.{StepAnswer}
use Rattle.heap_terms.specs.declared.steps.StepAnswer.TheVariants.{Went, Inside, StopFound, Taken, NotYet}
use Rattle.heap_terms.specs.declared.steps.WordStep.{WordStep}
use Rattle.heap_terms.specs.Heap.{NamedHeap, thread_at}
use Rattle.heap_terms.specs.Histories.{IsNext, next, replay, thread_of}
use Rattle.heap_terms.specs.declared.phases.Task.{Task}
use Rattle.heap_terms.specs.declared.phases.Task.TheVariants.{Walk, Happen, Rest}
use Rattle.heap_terms.specs.Phases.{collects, is_over, task_at, went, walked, happened}
use Rattle.heap_terms.specs.WordMachine.{answer_at, words_after}

-- What has happened so far, who holds the turn, the word of each thread, and its phase. The named heap is the replay of
-- the history.
pub record Configuration : Type 0 where
  pub history : List Event
  pub turn : ℕ
  pub words : List ℕ
  pub phases : List Phase

-- before the first turn nobody holds the turn, and each thread is parked
abbrev pub machine_start : Program → Configuration
machine_start p = record {
  history = [];
  turn = 0;
  words = replicate (length p.threads) 4;
  phases = replicate (length p.threads) Parked;
}

-- what thread t is at
abbrev pub phase_of : Configuration → ℕ → Phase
phase_of c t = slice_index_or c.phases t Ended

-- a collection is what thread t does next
abbrev pub is_due : Program → List Event → ℕ → Bool
is_due p h t = collects (next p (replay p h) t)

-- thread t has had its end
abbrev pub has_ended : Program → List Event → ℕ → Bool
has_ended p h t = is_over (next p (replay p h) t)

-- whether an event opens a region
abbrev pub opens : Event → Bool
opens (events.Did t c answer) = false
opens (events.Opened t ty first k) = true
opens (events.Collected t last passes) = false
opens (events.Ended t) = false

-- A section goes on after an event that opened a region, since the object is still to be built, and while its thread
-- inhibits collections in the heap after the event.
abbrev pub stays_inside : NamedHeap → Event → Bool
stays_inside after event = opens event || not ((thread_at after (thread_of event)).inhibits == 0)

-- the lines of a word step by its answer: one that waits has none
abbrev pub step_lines : ℕ → WordStep → StepAnswer → List ReplayLine
step_lines t step Went = replay_lines.Word (record { thread = t; step = step; answer = Went }) ∷ []
step_lines t step Inside = replay_lines.Word (record { thread = t; step = step; answer = Inside }) ∷ []
step_lines t step StopFound = replay_lines.Word (record { thread = t; step = step; answer = StopFound }) ∷ []
step_lines t step (Taken holder) = replay_lines.Word (record { thread = t; step = step; answer = Taken holder }) ∷ []
step_lines t step NotYet = []

-- the answer of a word step of thread t
abbrev pub answer_in : Configuration → ℕ → WordStep → StepAnswer
answer_in c t step = answer_at t step (c.turn ∷ c.words)

-- one word step of thread t
pub record Walks (p : Program) (t : ℕ) (step : WordStep) (old : Configuration) (lines : List ReplayLine) (new : Configuration) : Type 0 where
  pub words : (new.turn ∷ new.words) ≡ words_after t step (old.turn ∷ old.words)
  pub phases : new.phases
      ≡ slice_set old.phases t
      (walked (length p.threads) t (phase_of old t) (is_due p old.history t) (has_ended p old.history t) (went (answer_in old t step)))
  pub history : new.history ≡ old.history
  pub shown : lines ≡ step_lines t step (answer_in old t step)

-- one event of thread t, which could come next; its line is its number in the history
pub record HasEvent (p : Program) (t : ℕ) (old : Configuration) (lines : List ReplayLine) (new : Configuration) : Type 0 where
  pub event : Event
  pub thread : thread_of event ≡ t
  pub lawful : IsNext p (replay p old.history) event
  pub history : new.history ≡ old.history ++ event ∷ []
  pub turn : new.turn ≡ old.turn
  pub words : new.words ≡ old.words
  pub phases : new.phases
      ≡ slice_set old.phases t (happened (length p.threads) t (phase_of old t) (stays_inside (replay p new.history) event))
  pub shown : lines ≡ replay_lines.Event (length old.history) ∷ []

-- nothing changes
pub record IsStill (old : Configuration) (lines : List ReplayLine) (new : Configuration) : Type 0 where
  pub same : new ≡ old
  pub none : lines ≡ []

-- a task of thread t is done
abbrev pub Does : Program → ℕ → Task → Configuration → List ReplayLine → Configuration → Type 0
Does p t (Walk step) old lines new = Walks p t step old lines new
Does p t Happen old lines new = HasEvent p t old lines new
Does p t Rest old lines new = IsStill old lines new

-- a turn of thread t: it does what its phase says
abbrev pub IsTurn : Program → ℕ → Configuration → List ReplayLine → Configuration → Type 0
IsTurn p t old lines new = Does p t (task_at (phase_of old t) (is_due p old.history t)) old lines new
