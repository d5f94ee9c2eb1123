use Rattle.std.proofs.Common.{ℕ, ◌<◌}
use Rattle.lisp_heap.specs.Ready.{Lets}
use Rattle.lisp_heap.specs.View.{heap_of}
use Rattle.lisp_heap.proofs.world.World.lowest_busy.Given as goal

abbrev pub invariant-loop-u : goal.invariant-loop-u
invariant-loop-u l = (v : ℕ) → v < l.u → Lets (heap_of l.self) l.parcels v
