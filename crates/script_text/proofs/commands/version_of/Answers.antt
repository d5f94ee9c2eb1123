use Rattle.std.proofs.lemmas.Result.{err_from_is_err_and}
use Rattle.script_text.specs.Left.{fields_left}
use Rattle.script_text.proofs.Statements.{version_ok, version_bad, version_fields}
use Rattle.script_text.proofs.commands.version_of.Goals as goal

pub returns-in_err-field-clause-bad : goal.returns-in_err-field-clause-bad
returns-in_err-field-clause-bad c =
    let p = err_from_is_err_and c.from_residual.result c.from_residual.ensures.1 in
    rw (p.1, p.2) (λ threads. version_fields threads (fields_left c.args.left.now) c.in_err-field.field-0.0 c.in_err-field.ensures.none)

pub returns-in_err-version-clause-bad : goal.returns-in_err-version-clause-bad
returns-in_err-version-clause-bad c =
    let p = err_from_is_err_and c.from_residual-in_err-version.result c.from_residual-in_err-version.ensures.1 in
    rw (p.1, p.2) (λ threads. version_bad threads (fields_left c.args.left.now) c.in_ok-field.field.now c.in_err-version.field-0.0 c.in_ok-field.ensures.some c.in_err-version.ensures)

pub returns-clause-good : goal.returns-clause-good
returns-clause-good c threads = version_ok threads (fields_left c.args.left.now) c.in_ok-field.field.now c.in_ok-version.field-0 c.in_ok-field.ensures.some c.in_ok-version.ensures
