use Rattle.std.proofs.lemmas.Result.{err_from_is_err_and}
use Rattle.script_text.specs.Left.{fields_left}
use Rattle.script_text.proofs.Statements.{auto_good, auto_bad, auto_fields}
use Rattle.script_text.proofs.commands.auto_of.Goals as goal

pub returns-in_err-field-clause-bad : goal.returns-in_err-field-clause-bad
returns-in_err-field-clause-bad c =
    let p = err_from_is_err_and c.from_residual.result c.from_residual.ensures.1 in
    rw (p.1, p.2) (λ threads. auto_fields threads (fields_left c.args.left.now) c.in_err-field.field-0.0 c.in_err-field.ensures.none)

pub returns-clause-good : goal.returns-clause-good
returns-clause-good c = auto_good (fields_left c.args.left.now) c.in_ok-field.field.now c.auto_words.result c.in_ok-field.ensures.some c.auto_words.ensures

pub returns-clause-bad : goal.returns-clause-bad
returns-clause-bad c = auto_bad (fields_left c.args.left.now) c.in_ok-field.field.now c.auto_words.result c.in_ok-field.ensures.some c.auto_words.ensures
