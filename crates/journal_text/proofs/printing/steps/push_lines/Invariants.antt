use Rattle.std.proofs.Common.{◌≡◌, ◌++◌, take}
use Rattle.std.specs.List.{flat_map}
use Rattle.heap_terms.specs.WordText.{replay_line_text}
use Rattle.journal_text.proofs.printing.steps.push_lines.Given as goal

abbrev pub invariant-loop-line : goal.invariant-loop-line
invariant-loop-line l = l.out.text ≡ l.initial.out.text ++ flat_map (replay_line_text l.events) (take l.line-index l.lines)
