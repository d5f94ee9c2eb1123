use Rattle.std.proofs.Common.{◌≡◌, ◌∙◌, ap, ap₂}
use Rattle.std.proofs.lemmas.Result.{IfOk-weaker}
use Rattle.heap_terms.specs.Summary.{totals_of, totals_text}
use Rattle.lispheap.proofs.generating.summary_for.Goals as goal

pub returns : goal.returns
returns c =
    let world = c.in_ok-world in
    IfOk-weaker c.print_summary-text.result _ _ (λ text h. record {
      lines = world.ensures.run.lines;
      history = world.world.history;
      run = world.ensures.run.run;
      complete = world.ensures.complete;
      summary = h ∙ ap totals_text (c.summary-totals.ensures ∙ ap₂ totals_of (c.program.ensures.program ∙ world.ensures.program) c.history.ensures.history);
    }) c.print_summary-text.ensures
