use Rattle.std.proofs.Common.{◌∙◌, ap, length}
use Rattle.std.specs.Prelude.{fold}
use Rattle.heap_report.specs.Counting.{before_events, with_event}
use Rattle.heap_report.proofs.Sums.{all_events, taken_all}
use Rattle.heap_report.proofs.counting.summary.Goals as goal

pub returns : goal.returns
returns c =
    c.loop-event.invariant ∙ ap (fold with_event (before_events c.args.program.now (length c.args.events.now))) (taken_all c.args.events.now c.loop-event.event-index c.loop-event-test.false c.loop-event.auto.event-index-end)
    ∙ all_events c.args.program.now c.args.events.now
