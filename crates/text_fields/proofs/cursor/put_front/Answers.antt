use Rattle.std.proofs.Common.{arith, ap, ◌+◌, ◌-◌, ◌++◌, ◌∙◌, take, length}
use Rattle.text_fields.proofs.ThreeDigits.{front_of}
use Rattle.text_fields.proofs.cursor.put_front.Goals as goal

pub returns-clause-text : goal.returns-clause-text
returns-clause-text c =
    let same = c.copy_from_slice.ensures.after ∙ c.as_slice.ensures in
    front_of c.args.bytes.now c.copy_from_slice.new.self c.args.at (c.args.at + 4 - c.args.at) c.args.count (omega (arith, c.requires.room))
    (omega (arith, c.requires.some, ap length same, c.told-four))
    ∙ ap (λ l. take c.args.at c.args.bytes.now ++ take c.args.count l) same
