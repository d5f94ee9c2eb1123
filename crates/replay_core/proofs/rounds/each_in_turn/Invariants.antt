use Rattle.std.specs.List.{range_with_len}
use Rattle.replay_core.specs.Runs.{TurnedKept}
use Rattle.replay_core.proofs.rounds.each_in_turn.Given as goal

abbrev pub invariant-loop-t : goal.invariant-loop-t
invariant-loop-t l = TurnedKept (range_with_len 0 l.t) l.initial.machine l.machine l.initial.kept l.kept
