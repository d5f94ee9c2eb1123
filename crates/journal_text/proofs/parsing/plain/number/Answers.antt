use Rattle.std.proofs.Common.{◌≡◌, ◌<◌, get_or, sym, ◌∙◌, arith}
use Rattle.journal_text.proofs.PlainFields.{read_none, read_more, number_text}
use Rattle.journal_text.proofs.parsing.plain.number.Goals as goal
use Rattle.journal_text.proofs.parsing.plain.number.Goals.{then-len-gt1, else-len-gt1}

pub loop-len-init : goal.loop-len-init
loop-len-init c = read_none c.args.bytes.now

pub loop-len-preserved : goal.loop-len-preserved
loop-len-preserved c =
    rw c.from.ensures (read_more c.args.bytes.now c.loop-len.len c.loop-len.value c.loop-len-test.true c.if-value-lt-MOST_TO_GROW.true (sym c.is_decimal.ensures ∙ c.if-is_decimal.true) c.loop-len.invariant)

pub returns-clause-text : goal.returns-clause-text
returns-clause-text c =
    let lead : 1 < c.loop-len.len → get_or c.args.bytes.now 0 0 ≡ 48 → ⊥ = λ more zero. elim c.if-len-gt1.branch [ then-len-gt1 w ↦ grind arith | else-len-gt1 w ↦ absurd (omega arith) ] in
    let some : 0 < c.loop-len.len = omega arith in
    number_text c.args.bytes.now c.split_at.result.1.now c.loop-len.len c.loop-len.value some lead c.split_at.ensures.back c.loop-len.invariant
