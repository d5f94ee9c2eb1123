-- The heap of a World is well-formed.
use Rattle.std.proofs.Common.{subst}
use Rattle.heap_terms.specs.WellFormed.{IsWellFormed}
use Rattle.lisp_heap.specs.View.{View, heap_of}
use Rattle.lisp_heap.proofs.Soundness.{well_formed}
use Rattle.lisp_heap.proofs.world.World.history.Goals as goal

pub returns-clause-well_formed : goal.returns-clause-well_formed
returns-clause-well_formed c =
    subst (λ (w : View). IsWellFormed w.program (heap_of w)) c.self.view_is (well_formed c.self.inside c.self.invariant)
