use Rattle.replay_core.specs.Runs.{MoreRounds}
use Rattle.replay_core.proofs.rounds.more_rounds.Given as goal

abbrev pub invariant-loop : goal.invariant-loop
invariant-loop l = MoreRounds l.initial.machine l.machine l.initial.kept l.kept
