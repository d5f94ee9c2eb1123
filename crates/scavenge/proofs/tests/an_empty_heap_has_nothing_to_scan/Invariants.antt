use Rattle.scavenge.proofs.EmptyHeap.{empty_heap}
use Rattle.scavenge.proofs.tests.an_empty_heap_has_nothing_to_scan.Given as goal

abbrev pub ghost-trace : goal.ghost-trace
ghost-trace g a = empty_heap
