use Rattle.std.proofs.Common.{◌≡◌, ◌++◌, List, ℕ, ap, ◌∙◌}
use Rattle.std.specs.Prelude.{codes}
use Rattle.heap_terms.specs.declared.commands.Command.TheVariants.{Get}
use Rattle.heap_terms.specs.Text.{cell_field, number_field, fields_text}
use Rattle.journal_text.proofs.PlainFields.{three_texts}
use Rattle.journal_text.proofs.PlainLines.{acts}
use Rattle.journal_text.proofs.parsing.plain.get.Goals as goal

pub returns : goal.returns
returns c =
    let fields : c.in_ok-rest.rest.now ≡ fields_text (Get c.in_ok-d.d c.in_ok-c.c c.in_ok-i.i) ++ c.in_ok-i.rest.now = three_texts c.in_ok-rest.rest.now c.in_ok-d.rest.now c.in_ok-c.rest.now c.in_ok-i.rest.now (cell_field c.in_ok-d.d) (cell_field c.in_ok-c.c) (number_field c.in_ok-i.i) c.in_ok-d.ensures.text c.in_ok-c.ensures.text c.in_ok-i.ensures.text in
    acts c.args.thread (Get c.in_ok-d.d c.in_ok-c.c c.in_ok-i.i) c.in_ok-answer.answer c.args.bytes.now c.in_ok-i.rest.now c.in_ok-answer.after.now c.in_ok-event.event c.requires
    (c.in_ok-rest.ensures ∙ ap (λ (xs : List ℕ). codes " get" ++ xs) fields) (c.in_ok-d.ensures.within, c.in_ok-c.ensures.within, c.in_ok-i.ensures.within) c.in_ok-answer.ensures c.in_ok-event.ensures
