use Rattle.std.proofs.Common.{◌≡◌, Some, ◌∙◌, ap}
use Rattle.journal_text.specs.Words.{command_word}
use Rattle.journal_text.proofs.Words.{name_again}
use Rattle.journal_text.proofs.parsing.lines.command_line.Goals as goal

pub returns-in-Some : goal.returns-in-Some
returns-in-Some c =
    let told : command_word c.args.field.now ≡ Some c.in-Some.name = ap command_word c.in-Some.ensures ∙ name_again c.in-Some.name in
    rw told c.did.ensures
