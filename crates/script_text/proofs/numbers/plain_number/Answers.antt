use Rattle.std.proofs.Common.{◌<◌, length, refl, sym, ◌∙◌, arith}
use Rattle.script_text.proofs.Numbered.{read_none, read_more, number_at}
use Rattle.script_text.proofs.numbers.plain_number.Goals as goal

pub loop-len-init : goal.loop-len-init
loop-len-init c = read_none c.args.rest.now

pub loop-len-preserved : goal.loop-len-preserved
loop-len-preserved c =
    let digit = c.is_decimal.ensures.0 (rw c.if-is_decimal.true refl) in
    rw c.from.ensures (read_more c.args.rest.now c.loop-len.len c.loop-len.value c.loop-len-test.true c.if-len-lt20.true c.if-value-lt-MOST_TO_GROW.true digit.0 digit.1 c.loop-len.invariant)

pub returns : goal.returns
returns c =
    let below : c.loop-len.len < length c.args.rest.now = omega (arith, c.loop-len.invariant.within) in
    let some : 0 < c.loop-len.len = omega arith in
    number_at c.args.rest.now c.split_at.result.1.now c.loop-len.len c.loop-len.value below some (sym c.ends_plainly.ensures ∙ c.if-not-ends_plainly.false) c.split_at.ensures.back c.loop-len.invariant
