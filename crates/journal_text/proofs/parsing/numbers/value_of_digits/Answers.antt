use Rattle.std.proofs.Common.{◌∙◌, arith}
use Rattle.journal_text.specs.FieldReading.{is_decimal}
use Rattle.journal_text.proofs.Values.{value_from_zero, stopped_at, more_at, over_at, end_at}
use Rattle.journal_text.proofs.parsing.numbers.value_of_digits.Goals as goal

pub loop-byte-init : goal.loop-byte-init
loop-byte-init c = record { so_far = value_from_zero 10 is_decimal c.args.digits.now; small = omega arith }

pub loop-byte-preserved : goal.loop-byte-preserved
loop-byte-preserved c = record {
  so_far = more_at 10 is_decimal c.args.digits.now c.loop-byte.byte-index c.loop-byte.value _ _ (omega arith) c.in_ok-digit.ensures.0
      (omega (arith, c.in_ok-digit.ensures.1, c.in_ok-value.ensures.1, c.in_ok-checked_mul.ensures.1, c.from.ensures)) c.loop-byte.invariant.so_far;
  small = omega (arith, c.in_ok-value.ensures.0, c.in_ok-value.ensures.1);
}

pub returns-in_err-digit : goal.returns-in_err-digit
returns-in_err-digit c = c.from_residual.ensures ∙ stopped_at 10 is_decimal c.args.digits.now c.loop-byte.byte-index c.loop-byte.value _ (omega arith) c.in_err-digit.ensures c.loop-byte.invariant.so_far

pub returns-in_err-checked_mul : goal.returns-in_err-checked_mul
returns-in_err-checked_mul c =
    c.from_residual-in_err-checked_mul.ensures
    ∙ over_at 10 is_decimal c.args.digits.now c.loop-byte.byte-index c.loop-byte.value _ (omega arith) (omega arith) c.in_ok-digit.ensures.0
    (omega (arith, c.in_err-checked_mul.ensures)) c.loop-byte.invariant.so_far

pub returns-in_err-value : goal.returns-in_err-value
returns-in_err-value c =
    c.from_residual-in_err-value.ensures
    ∙ over_at 10 is_decimal c.args.digits.now c.loop-byte.byte-index c.loop-byte.value _ (omega arith) (omega arith) c.in_ok-digit.ensures.0
    (omega (arith, c.in_ok-digit.ensures.1, c.in_err-value.ensures, c.in_ok-checked_mul.ensures.1, c.from.ensures)) c.loop-byte.invariant.so_far

pub returns : goal.returns
returns c = end_at 10 is_decimal c.args.digits.now c.loop-byte.byte-index c.loop-byte.value _ (omega arith) (omega arith) c.loop-byte.invariant.so_far
