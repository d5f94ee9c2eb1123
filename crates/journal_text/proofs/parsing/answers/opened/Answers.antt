use Rattle.std.proofs.Common.{◌≡◌, Some, None, ◌∙◌, ap, refl}
use Rattle.journal_text.specs.AnswerReading.{an_opening}
use Rattle.journal_text.proofs.Words.{opening_again}
use Rattle.journal_text.proofs.parsing.answers.opened.Goals as goal

pub returns-in-Some : goal.returns-in-Some
returns-in-Some c =
    let told : an_opening c.args.field.now ≡ Some c.in-Some.opening = ap an_opening c.in-Some.ensures ∙ opening_again c.in-Some.opening in
    rw told c.worded.ensures

pub returns-in-None : goal.returns-in-None
returns-in-None c = let told : an_opening c.args.field.now ≡ None = c.in-None.ensures in rw told refl
