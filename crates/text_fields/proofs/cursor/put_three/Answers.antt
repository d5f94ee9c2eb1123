use Rattle.std.proofs.Common.{ap, ◌++◌, ◌∙◌, take}
use Rattle.text_fields.proofs.ThreeDigits.{three_are}
use Rattle.text_fields.proofs.cursor.put_three.Goals as goal

pub returns-clause-text : goal.returns-clause-text
returns-clause-text c =
    let before = take c.args.at c.args.bytes.now in
    c.put_front.ensures.text
    ∙ ap (λ l. before ++ take 3 l) c.four_at.ensures
    ∙ ap (λ l. before ++ l) (three_are c.args.n c.requires.most)
