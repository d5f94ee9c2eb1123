use Rattle.std.proofs.Common.{◌≡◌, ◌≤◌, length}
use Rattle.script_text.specs.ReaderAnswers.{turns_behind}
use Rattle.script_text.specs.Left.{fields_left, lines_after}
use Rattle.script_text.proofs.schedules.add_turns.Given as goal

abbrev pub invariant-loop-turns : goal.invariant-loop-turns
invariant-loop-turns l = record {
  within : length l.schedule.items ≤ 1000000;
  turns : turns_behind l.fn.schedule.items l.threads (fields_left l.fn.left) ≡ turns_behind l.schedule.items l.threads (fields_left l.left);
  lines : lines_after l.left ≡ lines_after l.fn.left;
}

abbrev pub decreases-loop-turns : goal.decreases-loop-turns
decreases-loop-turns l = length (fields_left l.left)
