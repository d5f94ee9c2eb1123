use Rattle.lisp_heap.specs.View.{heap_of}
use Rattle.lisp_heap.proofs.world.World.viewed.Given as goal

abbrev pub ghost-page : goal.ghost-page
ghost-page a = heap_of a.self.now
