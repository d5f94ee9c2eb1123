use Rattle.std.proofs.Common.{◌≡◌, ◌++◌, length}
use Rattle.script_text.specs.Runs.{runs_text}
use Rattle.script_text.proofs.printing.push_runs.Given as goal

abbrev pub invariant-loop-left : goal.invariant-loop-left
invariant-loop-left l = l.out.text ++ runs_text l.left ≡ l.initial.out.text ++ runs_text l.turns

abbrev pub decreases-loop-left : goal.decreases-loop-left
decreases-loop-left l = length l.left
