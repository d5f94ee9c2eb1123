-- `addr` puts the word of a cell into a raw cell.
use Rattle.lisp_heap.specs.View.{heap_of}
use Rattle.lisp_heap.proofs.Plans.{addressed_is}
use Rattle.lisp_heap.proofs.world.World.addressed.Goals as goal

pub returns : goal.returns
returns c = addressed_is (heap_of c.args.self.now) c.args.t c.args.r c.args.c c.cell-word.result c.requires.r c.cell-word.ensures
