use Rattle.std.proofs.Common.{take}
use Rattle.replay_core.specs.MachineView.{program_of}
use Rattle.replay_core.specs.Runs.{TurnedKept}
use Rattle.replay_core.proofs.rounds.schedule_turns.Given as goal

abbrev pub invariant-loop-i : goal.invariant-loop-i
invariant-loop-i l = TurnedKept (take l.i (program_of l.initial.machine).schedule) l.initial.machine l.machine l.initial.kept l.kept
