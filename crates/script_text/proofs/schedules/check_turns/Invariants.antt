use Rattle.std.proofs.Common.{◌≡◌, List, ℕ, length}
use Rattle.heap_terms.specs.Grammar.{turns_of_all}
use Rattle.script_text.specs.ReaderAnswers.{turns_behind}
use Rattle.script_text.specs.Left.{fields_left}
use Rattle.script_text.proofs.schedules.check_turns.Given as goal

abbrev pub invariant-loop-field : goal.invariant-loop-field
invariant-loop-field l = (before : List ℕ) × (turns_of_all l.threads (fields_left l.fn.left) ≡ turns_behind before l.threads (fields_left l.left))

abbrev pub decreases-loop-field : goal.decreases-loop-field
decreases-loop-field l = length (fields_left l.left)
