-- What one turn did, by its answer.
use Rattle.std.specs.Prelude.{◌≡◌, ◌≢◌, ◌↔◌, ℕ, List, [], ◌∷◌, length, true, false}
use Rattle.heap_terms.specs.declared.phases.Phase.{Phase}
use Rattle.heap_terms.specs.declared.phases.Phase.TheVariants as phases
use Rattle.heap_terms.specs.declared.steps.ReplayLine.{ReplayLine}
use Rattle.heap_terms.specs.declared.steps.ReplayLine.TheVariants as replay_lines
use Rattle.heap_terms.specs.declared.steps.StepAnswer.{StepAnswer}
use Rattle.heap_terms.specs.declared.steps.StepAnswer.TheVariants.{NotYet}
use Rattle.heap_terms.specs.declared.steps.WordStep.{WordStep}
use Rattle.heap_terms.specs.MachineTurns.{Configuration, phase_of, answer_in, step_lines, IsTurn, Walks, HasEvent}
use Rattle.heap_terms.specs.WordMachine.{has}
use Rattle.machine_laws.specs.Orderly.{word_in}
use Rattle.replay_core.specs.MachineView.{MachineView, program_of, configuration_of}
use Rattle.replay_core.specs.declared.machine.Stepped.{Stepped}
use Rattle.replay_core.specs.declared.machine.Stepped.TheVariants.{Word, Happened, Waits, Ended}

-- one word step of thread t was done, with this answer; the World is as it was
pub record StepDone (t : ℕ) (step : WordStep) (old new : MachineView) (found : StepAnswer) : Type 0 where
  pub world : new.world ≡ old.world
  pub walks : Walks (program_of old) t step (configuration_of old) (step_lines t step found) (configuration_of new)
  pub found_is : found ≡ answer_in (configuration_of old) t step

-- one event of thread t was done
pub record EventDone (t : ℕ) (old new : MachineView) : Type 0 where
  pub program : program_of new ≡ program_of old
  pub event : HasEvent (program_of old) t (configuration_of old) (replay_lines.Event (length old.world.history) ∷ []) (configuration_of new)

-- one turn of thread t was done, with these lines
pub record TurnDone (t : ℕ) (lines : List ReplayLine) (old new : MachineView) : Type 0 where
  pub program : program_of new ≡ program_of old
  pub turn : IsTurn (program_of old) t (configuration_of old) lines (configuration_of new)

-- one turn of thread t was done, whose lines nobody asks for
pub record IsDone (t : ℕ) (old new : MachineView) : Type 0 where
  pub lines : List ReplayLine
  pub done : TurnDone t lines old new

-- the lines of a turn, by its answer
abbrev pub lines_of : MachineView → Stepped → List ReplayLine
lines_of old (Word line) = replay_lines.Word line ∷ []
lines_of old Happened = replay_lines.Event (length old.world.history) ∷ []
lines_of old Waits = []
lines_of old Ended = []

-- a thread at a phase waits: it is parked with a stop in its word, or looks at a thread that is not parked
abbrev pub IsWaitingAt : Configuration → ℕ → Phase → Type 0
IsWaitingAt c t phases.Parked = has 2 (word_in c t) ≡ true
IsWaitingAt c t phases.Outside = ⊥
IsWaitingAt c t phases.Inside = ⊥
IsWaitingAt c t phases.Leaving = ⊥
IsWaitingAt c t phases.Parking = ⊥
IsWaitingAt c t (phases.Posting u) = ⊥
IsWaitingAt c t (phases.Looking u) = has 4 (word_in c u) ≡ false
IsWaitingAt c t phases.Collecting = ⊥
IsWaitingAt c t (phases.Releasing u) = ⊥
IsWaitingAt c t phases.Returning = ⊥
IsWaitingAt c t phases.Ended = ⊥

abbrev pub IsWaiting : Configuration → ℕ → Type 0
IsWaiting c t = IsWaitingAt c t (phase_of c t)

-- every thread is at its end
abbrev pub AllEnded : MachineView → Type 0
AllEnded m = (t : ℕ) → phase_of (configuration_of m) t ≡ phases.Ended

-- what a word step tells by its answer: its line, or that it waits
pub record Tells (t : ℕ) (step : WordStep) (found : StepAnswer) (told : Stepped) : Type 0 where
  pub lines : (m : MachineView) → lines_of m told ≡ step_lines t step found
  pub waits : (told ≡ Waits) ↔ (found ≡ NotYet)
  pub goes : told ≢ Ended
