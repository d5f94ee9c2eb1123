-- The collection is that of the heap with its regions closed.
use Rattle.lisp_heap.specs.Rooting.{rooted_in}
use Rattle.lisp_heap.proofs.world.World.make_collection.Given as goal

abbrev pub ghost-collect_with : goal.ghost-collect_with
ghost-collect_with a = rooted_in a.self.now
