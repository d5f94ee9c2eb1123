-- `nil` puts the word of NIL into the cell.
use Rattle.lisp_heap.specs.View.{heap_of}
use Rattle.lisp_heap.proofs.Plans.{nil_is}
use Rattle.lisp_heap.proofs.world.World.made_nil.Goals as goal

pub returns : goal.returns
returns c = nil_is (heap_of c.args.self.now) c.args.t c.args.d c.requires.d
