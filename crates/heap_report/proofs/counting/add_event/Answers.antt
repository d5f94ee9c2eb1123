use Rattle.std.proofs.Common.{refl}
use Rattle.heap_report.specs.Counting.{with_event}
use Rattle.heap_report.proofs.counting.add_event.Goals as goal

pub returns-in-Did : goal.returns-in-Did
unfolding with_event
returns-in-Did c = rw c.in-Did.is c.add_answer.ensures

pub returns-in-Collected : goal.returns-in-Collected
unfolding with_event
returns-in-Collected c = rw (c.in-Collected.is, ← c.saturating_add-totals.ensures, ← c.as_slice.ensures) c.add_passes.ensures

pub returns-in-Opened : goal.returns-in-Opened
unfolding with_event
returns-in-Opened c = rw c.in-Opened.is refl

pub returns-in-Ended : goal.returns-in-Ended
unfolding with_event
returns-in-Ended c = rw c.in-Ended.is refl
