use Rattle.std.proofs.Common.{◌≡◌, ◌++◌, List, ℕ, ap, ◌∙◌}
use Rattle.std.specs.Prelude.{codes}
use Rattle.heap_terms.specs.declared.commands.Command.TheVariants.{Show}
use Rattle.heap_terms.specs.Text.{fields_text}
use Rattle.journal_text.proofs.PlainLines.{acts}
use Rattle.journal_text.proofs.parsing.plain.show.Goals as goal

pub returns : goal.returns
returns c =
    let fields : c.in_ok-rest.rest.now ≡ fields_text (Show c.in_ok-c.c) ++ c.in_ok-c.rest.now = c.in_ok-c.ensures.text in
    acts c.args.thread (Show c.in_ok-c.c) c.in_ok-answer.answer c.args.bytes.now c.in_ok-c.rest.now c.in_ok-answer.after.now c.in_ok-event.event c.requires
    (c.in_ok-rest.ensures ∙ ap (λ (xs : List ℕ). codes " show" ++ xs) fields) c.in_ok-c.ensures.within c.in_ok-answer.ensures c.in_ok-event.ensures
