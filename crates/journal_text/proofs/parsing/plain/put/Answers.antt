use Rattle.std.proofs.Common.{◌≡◌, ◌++◌, List, ℕ, ap, ◌∙◌}
use Rattle.std.specs.Prelude.{codes}
use Rattle.heap_terms.specs.declared.commands.Command.TheVariants.{Put}
use Rattle.heap_terms.specs.Text.{cell_field, number_field, fields_text}
use Rattle.journal_text.proofs.PlainFields.{three_texts}
use Rattle.journal_text.proofs.PlainLines.{acts}
use Rattle.journal_text.proofs.parsing.plain.put.Goals as goal

pub returns : goal.returns
returns c =
    let fields : c.in_ok-rest.rest.now ≡ fields_text (Put c.in_ok-c.c c.in_ok-i.i c.in_ok-a.a) ++ c.in_ok-a.rest.now = three_texts c.in_ok-rest.rest.now c.in_ok-c.rest.now c.in_ok-i.rest.now c.in_ok-a.rest.now (cell_field c.in_ok-c.c) (number_field c.in_ok-i.i) (cell_field c.in_ok-a.a) c.in_ok-c.ensures.text c.in_ok-i.ensures.text c.in_ok-a.ensures.text in
    acts c.args.thread (Put c.in_ok-c.c c.in_ok-i.i c.in_ok-a.a) c.in_ok-answer.answer c.args.bytes.now c.in_ok-a.rest.now c.in_ok-answer.after.now c.in_ok-event.event c.requires
    (c.in_ok-rest.ensures ∙ ap (λ (xs : List ℕ). codes " put" ++ xs) fields) (c.in_ok-c.ensures.within, c.in_ok-i.ensures.within, c.in_ok-a.ensures.within) c.in_ok-answer.ensures c.in_ok-event.ensures
