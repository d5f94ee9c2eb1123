use Rattle.std.proofs.Common.{◌+◌}
use Rattle.replay_core.proofs.Many.{TurnedKept-none, TurnedKept-round}
use Rattle.replay_core.proofs.rounds.more_rounds.Goals as goal

pub loop-init : goal.loop-init
loop-init c = record { rounds = 0; turned = TurnedKept-none c.args.machine.now c.args.kept.now }

pub loop-preserved : goal.loop-preserved
loop-preserved c =
    let h = c.loop.invariant in
    record {
      rounds = h.rounds + 1;
      turned = TurnedKept-round h.rounds c.args.machine.now c.loop.machine c.each_in_turn.new.machine c.args.kept.now c.loop.kept c.each_in_turn.new.kept
          h.turned c.in_ok-each_in_turn.ensures;
    }
