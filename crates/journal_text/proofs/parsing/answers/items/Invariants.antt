use Rattle.std.proofs.Common.{◌≡◌, length}
use Rattle.journal_text.specs.AnswerReading.{all_of, with_front}
use Rattle.journal_text.specs.AnswerReading.{an_item}
use Rattle.journal_text.proofs.parsing.answers.items.Given as goal

abbrev pub invariant-loop-field : goal.invariant-loop-field
invariant-loop-field l = with_front l.items (all_of an_item l.fields) ≡ all_of an_item l.fn.fields

abbrev pub decreases-loop-field : goal.decreases-loop-field
decreases-loop-field l = length l.fields
