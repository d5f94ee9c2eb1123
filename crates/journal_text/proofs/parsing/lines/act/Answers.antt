use Rattle.std.proofs.Common.{◌≡◌, Some, ◌∙◌, ap}
use Rattle.journal_text.specs.PieceReading.{a_verb}
use Rattle.journal_text.proofs.Words.{verb_again}
use Rattle.journal_text.proofs.parsing.lines.act.Goals as goal

pub returns-in-Some-verb_word : goal.returns-in-Some-verb_word
returns-in-Some-verb_word c =
    let told : a_verb c.in-Some.field.now ≡ Some c.in-Some-verb_word.verb = ap a_verb c.in-Some-verb_word.ensures ∙ verb_again c.in-Some-verb_word.verb in
    rw (c.in-Some.ensures, told) c.event_line.ensures
