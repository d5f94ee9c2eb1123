-- The pass is made over the heap as it is now.
use Rattle.lisp_heap.proofs.all_passes.make_next.Given as goal

abbrev pub ghost-make_counted_pass : goal.ghost-make_counted_pass
ghost-make_counted_pass g a = g.h
