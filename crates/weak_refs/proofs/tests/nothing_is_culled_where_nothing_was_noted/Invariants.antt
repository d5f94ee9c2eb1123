use Rattle.scavenge.proofs.EmptyHeap.{empty_heap}
use Rattle.weak_refs.proofs.tests.nothing_is_culled_where_nothing_was_noted.Given as goal

abbrev pub ghost-finish : goal.ghost-finish
ghost-finish g a = empty_heap
