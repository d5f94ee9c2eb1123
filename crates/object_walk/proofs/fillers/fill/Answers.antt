use Rattle.std.proofs.Common.{◌<◌, ◌∙◌, ap, set, length, List, ℕ, arith}
use Rattle.object_walk.proofs.Filled.{one_filled}
use Rattle.object_walk.proofs.fillers.fill.Goals as goal

pub loop-index-preserved : goal.loop-index-preserved
loop-index-preserved c =
    let inside : c.loop-index.index < length c.args.space.now = omega arith in
    c.write.ensures
    ∙ ap (λ (ws : List ℕ). set ws c.loop-index.index 0x41) c.loop-index.invariant
    ∙ one_filled c.args.space.now c.args.from c.loop-index.index c.loop-index.auto.index inside
