use Rattle.std.proofs.Common.{ap, ◌-◌, ◌+◌, ◌*◌, ◌++◌, ◌∙◌, take}
use Rattle.text_fields.proofs.ThreeDigits.{front_is, four}
use Rattle.text_fields.proofs.cursor.put_short.Goals as goal

pub returns-clause-text : goal.returns-clause-text
returns-clause-text c =
    let before = take c.args.at c.args.bytes.now in
    let count = c.digits_of-count.result in
    c.put_front.ensures.text
    ∙ ap (λ l. before ++ take count l) c.four_at.ensures
    ∙ ap (λ k. before ++ take k (four (c.args.n * 4 + 3 - k))) c.digits_of-count.ensures.count
    ∙ ap (λ l. before ++ l) (front_is c.args.n c.requires.most)
