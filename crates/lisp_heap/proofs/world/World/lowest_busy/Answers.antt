-- The threads so far let the collection be made.
use Rattle.std.proofs.Common.{◌<◌, length, below_more, arith, sym, ◌∙◌}
use Rattle.lisp_heap.specs.Ready.{Lets}
use Rattle.lisp_heap.specs.View.{heap_of}
use Rattle.lisp_heap.proofs.Letting.{lets}
use Rattle.lisp_heap.proofs.world.World.lowest_busy.Goals as goal

pub loop-u-preserved : goal.loop-u-preserved
loop-u-preserved c =
    let there : c.loop-u.u < length c.args.parcels.now = omega arith in
    below_more (Lets (heap_of c.args.self.now) c.args.parcels.now) c.loop-u.u c.loop-u.invariant
    (lets (heap_of c.args.self.now) c.args.parcels.now c.loop-u.u c.index-parcels-u.result (sym c.inhibits.ensures ∙ c.if-inhibits.false) there c.index-parcels-u.is
    (c.agrees.ensures.0 c.if-not-agrees.false))
