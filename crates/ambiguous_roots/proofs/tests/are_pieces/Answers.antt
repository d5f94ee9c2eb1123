use Rattle.object_walk.proofs.Tested.{piece_more}
use Rattle.ambiguous_roots.proofs.tests.are_pieces.Goals as goal

pub loop-index-preserved : goal.loop-index-preserved
loop-index-preserved c (pieces, laid) =
    c.loop-index.invariant (piece_more c.args.space.now c.loop-index.index c.in-Some.size c.args.end pieces c.loop-index-test.true c.in-Some.ensures laid)
