use Rattle.std.proofs.Common.{◌≡◌, length}
use Rattle.journal_text.specs.AnswerReading.{all_of, with_front}
use Rattle.journal_text.specs.LineReading.{a_number_32}
use Rattle.journal_text.proofs.parsing.answers.ids.Given as goal

abbrev pub invariant-loop-field : goal.invariant-loop-field
invariant-loop-field l = with_front l.ids (all_of a_number_32 l.fields) ≡ all_of a_number_32 l.fn.fields

abbrev pub decreases-loop-field : goal.decreases-loop-field
decreases-loop-field l = length l.fields
