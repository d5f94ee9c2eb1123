-- What many turns make of a machine.
use Rattle.std.specs.Prelude.{◌≡◌, ℕ, List, ◌++◌, length, Option, Some, None}
use Rattle.heap_terms.specs.declared.events.Event.{Event}
use Rattle.heap_terms.specs.declared.programs.Program.{Program}
use Rattle.heap_terms.specs.declared.steps.ReplayLine.{ReplayLine}
use Rattle.heap_terms.specs.Runs.{AreTurns, IsRun, rounds_of}
use Rattle.replay_core.specs.MachineView.{MachineView, program_of, configuration_of}
use Rattle.replay_core.specs.Stepping.{AllEnded}

-- the turns of a list of threads were done, one after the other, with these lines, and the program is the same
pub record Turned (threads : List ℕ) (lines : List ReplayLine) (old new : MachineView) : Type 0 where
  pub program : program_of new ≡ program_of old
  pub turns : AreTurns (program_of old) threads (configuration_of old) lines (configuration_of new)

-- lines are added to those that are kept, if any are
abbrev pub Keeps : Option (List ReplayLine) → List ReplayLine → Option (List ReplayLine) → Type 0
Keeps None lines new = new ≡ None
Keeps (Some kept) lines new = new ≡ Some (kept ++ lines)

-- the turns of a list of threads were done, and their lines were kept if somebody asks for them
pub record TurnedKept (threads : List ℕ) (old new : MachineView) (kept after : Option (List ReplayLine)) : Type 0 where
  pub lines : List ReplayLine
  pub turned : Turned threads lines old new
  pub keeps : Keeps kept lines after

-- some whole rounds of all threads were done
pub record MoreRounds (old new : MachineView) (kept after : Option (List ReplayLine)) : Type 0 where
  pub rounds : ℕ
  pub turned : TurnedKept (rounds_of (length (program_of old).threads) rounds) old new kept after

-- some whole rounds of all threads were done, until every thread had ended
pub record RoundsDone (old new : MachineView) (kept after : Option (List ReplayLine)) : Type 0 where
  pub rounds : ℕ
  pub turned : TurnedKept (rounds_of (length (program_of old).threads) rounds) old new kept after
  pub done : AllEnded new

-- the turns of the schedule and some whole rounds of all threads were done, and every thread has ended
pub record RunsWhole (old new : MachineView) (kept after : Option (List ReplayLine)) : Type 0 where
  pub rounds : ℕ
  pub turned : TurnedKept ((program_of old).schedule ++ rounds_of (length (program_of old).threads) rounds) old new kept after
  pub done : AllEnded new

-- a history is that of a run of a program, whose lines nobody keeps
pub record RunsTo (p : Program) (h : List Event) : Type 0 where
  pub lines : List ReplayLine
  pub run : IsRun p lines h
