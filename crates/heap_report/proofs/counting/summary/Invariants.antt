use Rattle.std.proofs.Common.{◌≡◌, length, take}
use Rattle.std.specs.Prelude.{fold}
use Rattle.heap_report.specs.Counting.{before_events, with_event}
use Rattle.heap_report.proofs.counting.summary.Given as goal

abbrev pub invariant-loop-event : goal.invariant-loop-event
invariant-loop-event l = l.totals ≡ fold with_event (before_events l.fn.program (length l.fn.events)) (take l.event-index l.events)
