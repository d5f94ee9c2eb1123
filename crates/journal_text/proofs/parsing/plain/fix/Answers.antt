use Rattle.std.proofs.Common.{◌≡◌, ◌++◌, List, ℕ, ap, ◌∙◌, to_z, of_z, w64}
use Rattle.std.specs.Prelude.{codes}
use Rattle.std.proofs.lemmas.Int.{to_z-of_z}
use Rattle.std.specs.Fmt.{signed_decimal}
use Rattle.heap_terms.specs.declared.commands.Command.TheVariants.{Fix}
use Rattle.heap_terms.specs.Text.{cell_field, field, fields_text}
use Rattle.journal_text.proofs.PlainFields.{two_texts}
use Rattle.journal_text.proofs.PlainLines.{acts, fixnum_fits}
use Rattle.journal_text.proofs.parsing.plain.fix.Goals as goal

pub returns : goal.returns
returns c =
    let fields : c.in_ok-rest.rest.now ≡ fields_text (Fix c.in_ok-d.d c.in_ok-n.n) ++ c.in_ok-n.rest.now = two_texts c.in_ok-rest.rest.now c.in_ok-d.rest.now c.in_ok-n.rest.now (cell_field c.in_ok-d.d) (field (signed_decimal c.in_ok-n.n)) c.in_ok-d.ensures.text c.in_ok-n.ensures.text in
    let same : to_z w64 (of_z w64 c.in_ok-n.n) ≡ c.in_ok-n.n = to_z-of_z w64 c.in_ok-n.n (fixnum_fits c.in_ok-n.n c.in_ok-n.ensures.within) in
    acts c.args.thread (Fix c.in_ok-d.d c.in_ok-n.n) c.in_ok-answer.answer c.args.bytes.now c.in_ok-n.rest.now c.in_ok-answer.after.now c.in_ok-event.event c.requires
    (c.in_ok-rest.ensures ∙ ap (λ (xs : List ℕ). codes " fix" ++ xs) fields) (c.in_ok-d.ensures.within, c.in_ok-n.ensures.within) c.in_ok-answer.ensures (rw same at c.in_ok-event.ensures)
