-- `move` puts the word of one cell into another.
use Rattle.lisp_heap.specs.View.{heap_of}
use Rattle.lisp_heap.proofs.Plans.{moved_is}
use Rattle.lisp_heap.proofs.world.World.moved.Goals as goal

pub returns : goal.returns
returns c = moved_is (heap_of c.args.self.now) c.args.t c.args.d c.args.c c.cell-word.result c.requires.d c.cell-word.ensures
