-- The pass is made over the heap for which the fields stand.
use Rattle.lisp_heap.proofs.one_pass.make_pass.Given as goal

abbrev pub ghost-run_pass : goal.ghost-run_pass
ghost-run_pass g a = g.h
