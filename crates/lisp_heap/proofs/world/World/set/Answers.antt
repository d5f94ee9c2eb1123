-- `raw` puts a word into a raw cell.
use Rattle.lisp_heap.specs.View.{heap_of}
use Rattle.lisp_heap.proofs.Plans.{set_is}
use Rattle.lisp_heap.proofs.world.World.set.Goals as goal

pub returns : goal.returns
returns c = set_is (heap_of c.args.self.now) c.args.t c.args.r c.args.word c.requires.r
