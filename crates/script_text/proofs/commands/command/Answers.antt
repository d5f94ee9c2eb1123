use Rattle.std.proofs.Common.{◌≡◌, ◌∙◌, ℕ, List, length, drop, sym, ap}
use Rattle.std.proofs.lemmas.Bool.{eqb-true, eqb-false}
use Rattle.script_text.specs.Commands.{field_count}
use Rattle.script_text.specs.Left.{fields_left}
use Rattle.script_text.proofs.Rows.{command_read, command_with_more, command_bad, command_uncounted}
use Rattle.script_text.proofs.commands.command.Goals as goal

pub returns-then-is_at_end-clause-value : goal.returns-then-is_at_end-clause-value
returns-then-is_at_end-clause-value c threads =
    let left : length (fields_left c.front.new.left) ≡ 0 = eqb-true _ _ (sym c.if-is_at_end.ensures) in
    let none : length (drop (field_count c.args.name) (fields_left c.args.left.now)) ≡ 0 = ap length (sym c.in-Ok.ensures.fields) ∙ left in
    sym (command_read c.args.name threads (fields_left c.args.left.now) c.in-Ok.command (sym c.in-Ok.ensures.value) none)

pub returns-else-is_at_end-clause-value : goal.returns-else-is_at_end-clause-value
returns-else-is_at_end-clause-value c threads =
    sym (command_with_more c.args.name threads (fields_left c.args.left.now) (λ none.
    eqb-false (length (fields_left c.front.new.left)) 0 (sym c.if-is_at_end.ensures) (ap length c.in-Ok.ensures.fields ∙ none)))

pub returns-then-has_fields-clause-value : goal.returns-then-has_fields-clause-value
returns-then-has_fields-clause-value c threads =
    let counted : length (fields_left c.here-start.result) ≡ c.fields.result = eqb-true _ _ (sym c.if-has_fields.ensures) in
    let same : length (fields_left c.here-start.result) ≡ length (fields_left c.args.left.now) = ap (λ (bytes : List ℕ). length (fields_left bytes)) c.here-start.ensures in
    sym (command_bad c.args.name threads (fields_left c.args.left.now) c.in-Err.why (sym c.in-Err.ensures.value) (sym same ∙ counted ∙ c.fields.ensures))

pub returns-else-has_fields-clause-value : goal.returns-else-has_fields-clause-value
returns-else-has_fields-clause-value c threads =
    let same : length (fields_left c.here-start.result) ≡ length (fields_left c.args.left.now) = ap (λ (bytes : List ℕ). length (fields_left bytes)) c.here-start.ensures in
    sym (command_uncounted c.args.name threads (fields_left c.args.left.now) (λ counted.
    eqb-false (length (fields_left c.here-start.result)) c.fields.result (sym c.if-has_fields.ensures) (same ∙ counted ∙ sym c.fields.ensures)))
