use Rattle.std.proofs.Common.{◌≡◌, ◌++◌, take}
use Rattle.std.specs.Prelude.{filter, flat_map}
use Rattle.lisp_heap.specs.Rooting.{may_refer, pinned_words}
use Rattle.lisp_heap.proofs.rooting.add_pins.Given as goal

abbrev pub invariant-loop-t : goal.invariant-loop-t
invariant-loop-t l = l.out.items ≡ l.fn.out.items ++ filter may_refer (flat_map pinned_words (take l.t l.pins))
