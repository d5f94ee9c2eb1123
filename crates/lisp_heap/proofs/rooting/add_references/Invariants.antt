use Rattle.std.proofs.Common.{◌≡◌, ◌++◌, take}
use Rattle.std.specs.Prelude.{filter}
use Rattle.lisp_heap.specs.Rooting.{may_refer}
use Rattle.lisp_heap.proofs.rooting.add_references.Given as goal

abbrev pub invariant-loop-word : goal.invariant-loop-word
invariant-loop-word l = l.out.items ≡ l.fn.out.items ++ filter may_refer (take l.word-index l.words)
