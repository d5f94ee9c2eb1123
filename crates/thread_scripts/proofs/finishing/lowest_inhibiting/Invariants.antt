use Rattle.std.proofs.Common.{◌≡◌, ◌<◌, ℕ}
use Rattle.heap_terms.specs.Heap.{thread_at}
use Rattle.lisp_heap.specs.View.{heap_of}
use Rattle.thread_scripts.proofs.finishing.lowest_inhibiting.Given as goal

abbrev pub invariant-loop-t : goal.invariant-loop-t
invariant-loop-t l = (u : ℕ) → u < l.t → (thread_at (heap_of l.world) u).inhibits ≡ 0
