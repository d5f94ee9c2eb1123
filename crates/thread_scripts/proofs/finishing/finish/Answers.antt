use Rattle.std.proofs.Common.{◌≡◌, List, length, sym, ◌∙◌, ap, subst}
use Rattle.lisp_heap.specs.ParcelView.{ParcelView}
use Rattle.lisp_heap.specs.Ready as ready
use Rattle.lisp_heap.specs.View.{View, heap_of}
use Rattle.heap_turns.specs.Parcels.{AreReady}
use Rattle.heap_turns.proofs.Collects.{ready_again}
use Rattle.thread_scripts.proofs.Ends.{complete_of, none_out}
use Rattle.thread_scripts.proofs.finishing.finish.Goals as goal

pub end_all-ended-requires : goal.end_all-ended-requires
end_all-ended-requires c =
    let w = c.in_ok-world.world in
    let ps = c.in_ok-world.parcels.items in
    subst (λ (qs : List ParcelView). AreReady w qs) (sym c.as_mut_slice.ensures.value)
    (ready_again w ps (subst (λ (v : View). ready.AreReady (heap_of v) ps (length v.program.threads)) (sym c.in_ok-world.ensures.world) c.in_ok-world.ensures.ready))

pub returns-clause-regions : goal.returns-clause-regions
returns-clause-regions c = none_out c.end_all-ended.new.world c.history-history.ensures.valid c.history-history.ensures.lawful c.in_ok-ended.ensures.done

pub returns-clause-complete : goal.returns-clause-complete
returns-clause-complete c =
    complete_of c.args.world.program c.end_all-ended.new.world (c.end_all-ended.ensures.program ∙ ap (λ (w : View). w.program) c.in_ok-world.ensures.world)
    c.history-history.ensures.lawful c.in_ok-ended.ensures.done
