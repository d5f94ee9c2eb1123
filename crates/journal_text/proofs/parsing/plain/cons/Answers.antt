use Rattle.std.proofs.Common.{◌≡◌, ◌++◌, List, ℕ, ap, ◌∙◌}
use Rattle.std.specs.Prelude.{codes}
use Rattle.heap_terms.specs.declared.commands.Command.TheVariants.{NewCons}
use Rattle.heap_terms.specs.Text.{cell_field, fields_text}
use Rattle.journal_text.proofs.PlainFields.{three_texts}
use Rattle.journal_text.proofs.PlainLines.{acts}
use Rattle.journal_text.proofs.parsing.plain.cons.Goals as goal

pub returns : goal.returns
returns c =
    let fields : c.in_ok-rest.rest.now ≡ fields_text (NewCons c.in_ok-d.d c.in_ok-a.a c.in_ok-b.b) ++ c.in_ok-b.rest.now = three_texts c.in_ok-rest.rest.now c.in_ok-d.rest.now c.in_ok-a.rest.now c.in_ok-b.rest.now (cell_field c.in_ok-d.d) (cell_field c.in_ok-a.a) (cell_field c.in_ok-b.b) c.in_ok-d.ensures.text c.in_ok-a.ensures.text c.in_ok-b.ensures.text in
    acts c.args.thread (NewCons c.in_ok-d.d c.in_ok-a.a c.in_ok-b.b) c.in_ok-answer.answer c.args.bytes.now c.in_ok-b.rest.now c.in_ok-answer.after.now c.in_ok-event.event c.requires
    (c.in_ok-rest.ensures ∙ ap (λ (xs : List ℕ). codes " cons" ++ xs) fields) (c.in_ok-d.ensures.within, c.in_ok-a.ensures.within, c.in_ok-b.ensures.within) c.in_ok-answer.ensures c.in_ok-event.ensures
