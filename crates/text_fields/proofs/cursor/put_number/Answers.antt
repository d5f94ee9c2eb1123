use Rattle.std.proofs.Common.{◌≡◌, ◌+◌, ◌-◌, ◌*◌, ◌/◌, ◌%◌, ◌∷◌, [], ◌++◌, arith, ap, sym, ◌∙◌, append_assoc, take}
use Rattle.std.specs.Fmt.{decimal}
use Rattle.text_fields.proofs.ThreeDigits.{decimal_more}
use Rattle.text_fields.proofs.cursor.put_number.Goals as goal

pub returns-then-n-lt1000000-clause-text : goal.returns-then-n-lt1000000-clause-text
returns-then-n-lt1000000-clause-text c =
    let n = c.args.n in
    let before = take c.args.at c.args.bytes.now in
    let rest : n - 1000 * (n / 1000) ≡ n % 1000 = omega arith in
    c.put_three.ensures.text
    ∙ ap (λ r. take c.put_short-end.result c.put_short-end.new.bytes ++ (48 + r / 100) ∷ (48 + r % 100 / 10) ∷ (48 + r % 10) ∷ []) rest
    ∙ ap (λ l. l ++ (48 + n % 1000 / 100) ∷ (48 + n % 1000 % 100 / 10) ∷ (48 + n % 1000 % 10) ∷ []) c.put_short-end.ensures.text
    ∙ append_assoc before (decimal (n / 1000)) ((48 + n % 1000 / 100) ∷ (48 + n % 1000 % 100 / 10) ∷ (48 + n % 1000 % 10) ∷ [])
    ∙ ap (λ l. before ++ l) (sym (decimal_more n (omega arith) (omega arith)))
