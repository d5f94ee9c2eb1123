use Rattle.std.proofs.Common.{length, ◌-◌, ◌≤◌, drop}
use Rattle.script_text.specs.Left.{SameLeft}
use Rattle.script_text.proofs.fields.without_blanks.Given as goal

abbrev pub invariant-loop-start : goal.invariant-loop-start
invariant-loop-start l = record {
  within : l.start ≤ length l.bytes;
  same : SameLeft l.bytes (drop l.start l.bytes);
}

abbrev pub decreases-loop-start : goal.decreases-loop-start
decreases-loop-start l = length l.bytes - l.start
