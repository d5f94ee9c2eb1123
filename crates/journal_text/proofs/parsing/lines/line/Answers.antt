use Rattle.std.proofs.Common.{◌≡◌, Some, ◌∙◌, ap, sym}
use Rattle.journal_text.specs.PieceReading.{a_kind, read_line}
use Rattle.journal_text.proofs.Words.{kind_again}
use Rattle.journal_text.proofs.parsing.lines.line.Goals as goal

pub returns-in-Some-kind_word : goal.returns-in-Some-kind_word
unfolding read_line
returns-in-Some-kind_word c =
    let told : a_kind c.in-Some.field.now ≡ Some c.in-Some-kind_word.kind = ap a_kind c.in-Some-kind_word.ensures ∙ kind_again c.in-Some-kind_word.kind in
    rw (sym c.new-fields.ensures ∙ c.in-Some.ensures, told) c.record_line.ensures
