use Rattle.std.proofs.Common.{ℕ, ◌<◌, ◌≤◌, ◌≡◌, ◌+◌, ◌*◌, ◌^◌, ◌∙◌, subst, inl, inr, length, get_or, ap, arith, true}
use Rattle.std.specs.List.{list_all}
use Rattle.std.specs.Str.Parse.{digits_value}
use Rattle.std.proofs.lemmas.Bool.{cases_lt}
use Rattle.std.proofs.lemmas.List.{take_all}
use Rattle.command_words.proofs.Digits.{decimal_digit, all_digits_more, one_digit_more, too_large, all_said}
use Rattle.command_words.proofs.seeds.value_of.Goals as goal

pub returns-in_err-checked_mul : goal.returns-in_err-checked_mul
returns-in_err-checked_mul c =
    let lt : c.loop-byte.byte-index < length c.args.digits.now = omega arith in
    let more = one_digit_more c.args.digits.now c.loop-byte.byte-index lt (omega arith) (omega arith) in
    let large : 2 ^ 64 ≤ c.loop-byte.value * 10 = not_below (c.loop-byte.value * 10) c.in_err-checked_mul.ensures in
    c.from_residual.ensures ∙ too_large c.args.digits.now c.loop-byte.byte-index (c.loop-byte.value * 10) large (omega (arith, more, c.loop-byte.invariant.value))
  where
    not_below : (n : ℕ) → (n < 2 ^ 64 → ⊥) → 2 ^ 64 ≤ n
    not_below n not = elim (cases_lt n (2 ^ 64)) [ inl less ↦ absurd (not less) | inr more ↦ more ]

pub returns-in_err-value : goal.returns-in_err-value
returns-in_err-value c =
    let lt : c.loop-byte.byte-index < length c.args.digits.now = omega arith in
    let more = one_digit_more c.args.digits.now c.loop-byte.byte-index lt (omega arith) (omega arith) in
    let n = c.in_ok-checked_mul.field-0 + c.from.result in
    let times : c.in_ok-checked_mul.field-0 ≡ c.loop-byte.value * 10 = c.in_ok-checked_mul.ensures.1 in
    let large : 2 ^ 64 ≤ n = not_below n c.in_err-value.ensures in
    c.from_residual-in_err-value.ensures ∙ too_large c.args.digits.now c.loop-byte.byte-index n large (omega (arith, more, times, c.from.ensures, c.loop-byte.invariant.value))
  where
    not_below : (n : ℕ) → (n < 2 ^ 64 → ⊥) → 2 ^ 64 ≤ n
    not_below n not = elim (cases_lt n (2 ^ 64)) [ inl less ↦ absurd (not less) | inr more ↦ more ]

pub loop-byte-preserved : goal.loop-byte-preserved
loop-byte-preserved c =
    let lt : c.loop-byte.byte-index < length c.args.digits.now = omega arith in
    let low : 48 ≤ get_or c.args.digits.now c.loop-byte.byte-index 0 = omega arith in
    let high : get_or c.args.digits.now c.loop-byte.byte-index 0 ≤ 57 = omega arith in
    let more = one_digit_more c.args.digits.now c.loop-byte.byte-index lt low high in
    let times : c.in_ok-checked_mul.field-0 ≡ c.loop-byte.value * 10 = c.in_ok-checked_mul.ensures.1 in
    let sum : c.in_ok-value.value ≡ c.in_ok-checked_mul.field-0 + c.from.result = c.in_ok-value.ensures.1 in
    record {
      digits = all_digits_more c.args.digits.now c.loop-byte.byte-index lt low high c.loop-byte.invariant.digits;
      value = omega (arith, more, times, sum, c.from.ensures, c.loop-byte.invariant.value);
      fits = rw sum c.in_ok-value.ensures.0;
    }

pub returns : goal.returns
returns c =
    let whole = take_all c.loop-byte.byte-index c.args.digits.now c.loop-byte-test.false in
    let all : list_all decimal_digit c.args.digits.now ≡ true = subst (λ ds. list_all decimal_digit ds ≡ true) whole c.loop-byte.invariant.digits in
    let value : c.loop-byte.value ≡ digits_value 10 c.args.digits.now = c.loop-byte.invariant.value ∙ ap (digits_value 10) whole in
    all_said c.args.digits.now c.loop-byte.value all value c.loop-byte.invariant.fits
