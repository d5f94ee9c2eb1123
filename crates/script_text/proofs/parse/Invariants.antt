use Rattle.std.proofs.Common.{◌≡◌, ◌+◌, ◌≤◌, length}
use Rattle.std.specs.Str.Lines.{lines}
use Rattle.heap_terms.specs.ScriptReading.{read_lines, read_script}
use Rattle.script_text.proofs.parse.Given as goal

abbrev pub invariant-loop-left : goal.invariant-loop-left
invariant-loop-left l = record {
  reads : read_lines l.reader l.number (lines l.left) ≡ read_script l.bytes;
  numbers : l.number + length (lines l.left) ≤ length l.bytes + 1;
}

abbrev pub decreases-loop-left : goal.decreases-loop-left
decreases-loop-left l = length (lines l.left)
