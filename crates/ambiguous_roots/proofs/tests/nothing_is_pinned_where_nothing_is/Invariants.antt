use Rattle.ambiguous_roots.proofs.Tested.{empty_heap}
use Rattle.ambiguous_roots.proofs.tests.nothing_is_pinned_where_nothing_is.Given as goal

abbrev pub ghost-find_pins : goal.ghost-find_pins
ghost-find_pins g a = empty_heap
