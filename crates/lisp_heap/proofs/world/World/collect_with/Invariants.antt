-- The passes are made over the heap with its regions closed.
use Rattle.lisp_heap.proofs.world.World.collect_with.Given as goal

abbrev pub ghost-make_passes : goal.ghost-make_passes
ghost-make_passes g a = g.h
