use Rattle.replay_core.proofs.Many.{MoreRounds-alone, MoreRounds-none}
use Rattle.replay_core.proofs.rounds.rounds_alone.Goals as goal

pub loop-init : goal.loop-init
loop-init c = MoreRounds-none c.args.machine.now c.args.kept.now

pub loop-preserved : goal.loop-preserved
loop-preserved c =
    let a = c.args.machine.now in
    let k = c.args.kept.now in
    let one = MoreRounds-alone a c.loop.machine c.turn.new.machine k c.loop.kept c.turn.new.kept c.requires c.loop.invariant c.in_ok-turn.ensures in
    let two = MoreRounds-alone a c.turn.new.machine c.turn-in-loop.new.machine k c.turn.new.kept c.turn-in-loop.new.kept c.requires one c.in_ok-turn-2.ensures in
    MoreRounds-alone a c.turn-in-loop.new.machine c.turn-in-loop-2.new.machine k c.turn-in-loop.new.kept c.turn-in-loop-2.new.kept c.requires two c.in_ok-turn-3.ensures
