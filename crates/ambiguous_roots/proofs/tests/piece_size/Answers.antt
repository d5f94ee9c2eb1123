use Rattle.object_walk.proofs.Tested.{header_piece_at, cons_piece_at}
use Rattle.ambiguous_roots.proofs.tests.piece_size.Goals as goal

pub returns-in-Some : goal.returns-in-Some
returns-in-Some c =
    header_piece_at c.args.space.now c.args.index c.read-word.result c.size_of.result c.in-Some.kind c.in-Some.n c.read-word.ensures c.in-Some.ensures.header
    c.if-n-le-MOST_ELEMENTS.true c.size_of.ensures

pub returns-in-None : goal.returns-in-None
returns-in-None c = cons_piece_at c.args.space.now c.args.index c.read-word.result c.read-word.ensures c.if-word-ne1.true
