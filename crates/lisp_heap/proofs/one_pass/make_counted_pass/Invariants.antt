-- The pass is made over the heap for which the fields stand.
use Rattle.lisp_heap.proofs.one_pass.make_counted_pass.Given as goal

abbrev pub ghost-make_pass : goal.ghost-make_pass
ghost-make_pass g a = g.h
