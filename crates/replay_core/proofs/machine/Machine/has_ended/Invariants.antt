use Rattle.std.proofs.Common.{◌≡◌, ℕ, ◌<◌}
use Rattle.heap_terms.specs.declared.phases.Phase.TheVariants.{Ended}
use Rattle.heap_terms.specs.MachineTurns.{phase_of}
use Rattle.replay_core.specs.MachineView.{configuration_of}
use Rattle.replay_core.proofs.machine.Machine.has_ended.Given as goal

abbrev pub invariant-loop-t : goal.invariant-loop-t
invariant-loop-t l = (u : ℕ) → u < l.t → phase_of (configuration_of l.initial.self) u ≡ Ended
