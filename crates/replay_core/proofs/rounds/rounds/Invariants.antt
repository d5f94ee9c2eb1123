use Rattle.std.proofs.Common.{ℕ, length}
use Rattle.heap_terms.specs.Runs.{rounds_of}
use Rattle.machine_laws.specs.Measure.{measure}
use Rattle.replay_core.specs.MachineView.{program_of, configuration_of}
use Rattle.replay_core.specs.Runs.{TurnedKept}
use Rattle.replay_core.proofs.rounds.rounds.Given as goal

abbrev pub invariant-loop-machine : goal.invariant-loop-machine
invariant-loop-machine l = (k : ℕ) × TurnedKept (rounds_of (length (program_of l.initial.machine).threads) k) l.initial.machine l.machine l.initial.kept l.kept

abbrev pub decreases-loop-machine : goal.decreases-loop-machine
decreases-loop-machine l = measure (program_of l.machine) (configuration_of l.machine)
