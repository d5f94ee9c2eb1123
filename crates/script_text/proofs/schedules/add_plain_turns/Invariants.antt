use Rattle.std.proofs.Common.{◌≡◌, ◌≤◌, ◌-◌, length}
use Rattle.script_text.specs.ReaderAnswers.{turns_behind}
use Rattle.script_text.specs.Left.{fields_left, lines_after}
use Rattle.script_text.proofs.schedules.add_plain_turns.Given as goal

abbrev pub invariant-loop-left : goal.invariant-loop-left
invariant-loop-left l = record {
  within : length l.schedule.items ≤ 1000000;
  turns : turns_behind l.fn.schedule.items l.threads (fields_left l.fn.left) ≡ turns_behind l.schedule.items l.threads (fields_left l.left);
  lines : lines_after l.left ≡ lines_after l.fn.left;
}

abbrev pub decreases-loop-left : goal.decreases-loop-left
decreases-loop-left l = 1000000 - length l.schedule.items
