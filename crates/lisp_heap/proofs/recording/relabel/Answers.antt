-- One move more.
use Rattle.std.proofs.Common.{length, get_or, None, ap, sym, ◌∙◌}
use Rattle.heap_terms.specs.declared.events.Placing.{Placing}
use Rattle.lisp_heap.specs.Recording.{labelled_by}
use Rattle.lisp_heap.proofs.Relabelling.{relabelled_more, labelled_long}
use Rattle.lisp_heap.proofs.recording.relabel.Goals as goal

pub loop-m-preserved : goal.loop-m-preserved
loop-m-preserved c =
    let d : Placing = record { name = 0; old = 0; new = None } in
    let m = get_or c.args.moves.now c.loop-m.m-index d in
    record {
      labels = c.relabel_one.ensures ∙ ap (λ labels. labelled_by labels m) c.loop-m.invariant.labels
          ∙ sym (relabelled_more c.args.labels.now c.args.moves.now c.loop-m.m-index d c.loop-m-test.true);
      long = ap length c.relabel_one.ensures ∙ labelled_long c.loop-m.labels m ∙ c.loop-m.invariant.long;
    }
