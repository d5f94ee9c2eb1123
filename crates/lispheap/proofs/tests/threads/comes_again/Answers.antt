use Rattle.std.proofs.Common.{List, length, sym, ap, subst}
use Rattle.heap_terms.specs.declared.programs.Program.{Program}
use Rattle.heap_turns.proofs.Ready.{fresh_ready}
use Rattle.heap_turns.specs.Parcels.{AreReady}
use Rattle.lisp_heap.specs.Agreement.{AreFresh}
use Rattle.lisp_heap.specs.ParcelView.{ParcelView}
use Rattle.lispheap.proofs.tests.threads.comes_again.Goals as goal

pub go_again-went-requires : goal.go_again-went-requires
go_again-went-requires c =
    let w = c.in_ok-world.world in
    let ps = c.in_ok-world.parcels.items in
    subst (λ (qs : List ParcelView). AreReady w qs) (sym c.as_mut_slice.ensures.value)
    (fresh_ready w ps c.in_ok-world.ensures.history (subst (λ (p : Program). AreFresh ps (length p.threads)) (sym c.in_ok-world.ensures.program) c.in_ok-world.ensures.parcels))
