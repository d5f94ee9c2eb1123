use Rattle.std.proofs.Common.{◌<◌, ◌≤◌, ◌-◌, ◌^◌, length, get_or, arith}
use Rattle.script_text.proofs.Digits.{adds_digit, all_digits_more}
use Rattle.script_text.proofs.numbers.value_of_digits.Goals as goal

pub loop-byte-preserved : goal.loop-byte-preserved
loop-byte-preserved c =
    let lt : c.loop-byte.byte-index < length c.args.digits.now = omega arith in
    let low : 48 ≤ get_or c.args.digits.now c.loop-byte.byte-index 0 = omega arith in
    let high : get_or c.args.digits.now c.loop-byte.byte-index 0 ≤ 57 = omega arith in
    record {
      digits = all_digits_more c.args.digits.now c.loop-byte.byte-index lt low high c.loop-byte.invariant.digits;
      value = rw (c.saturating_add-value.ensures, c.saturating_mul.ensures, c.from.ensures) (adds_digit c.args.digits.now c.loop-byte.byte-index c.loop-byte.value (2 ^ 64 - 1) lt low high c.loop-byte.invariant.value);
    }
