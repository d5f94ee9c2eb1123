use Rattle.std.proofs.Common.{◌≡◌, ◌+◌, ◌*◌, ◌^◌, ◌<◌, ◌≤◌, ◌∙◌, length, take, get_or, ap, subst, arith, ℕ, add-one}
use Rattle.std.specs.Char.{is_digit, digit_value}
use Rattle.std.specs.List.{list_all}
use Rattle.std.proofs.lemmas.Bool.{and_from, lt-ltb}
use Rattle.std.proofs.lemmas.Int.Digits.{digits_value_more}
use Rattle.std.proofs.lemmas.List.Folds.{list_all_more}
use Rattle.script_text.proofs.Fitting.{power}
use Rattle.script_text.proofs.raw_words.value_of_hex.Goals as goal

pub overflow_mul-value : goal.overflow_mul-value
overflow_mul-value c =
    let few : c.loop-byte.byte-index ≤ 15 = omega arith in
    let most = power c.loop-byte.byte-index 15 few in
    omega (arith, most, c.loop-byte.invariant.small)

pub overflow_add-value : goal.overflow_add-value
overflow_add-value c =
    let few : c.loop-byte.byte-index ≤ 15 = omega arith in
    let most = power c.loop-byte.byte-index 15 few in
    let low = c.in_ok-digit.ensures.value.0 in
    let digit = c.in_ok-digit.ensures.value.1 in
    omega (arith, most, low, digit, c.from-in-loop-byte.ensures, c.loop-byte.invariant.small)

pub loop-byte-preserved : goal.loop-byte-preserved
loop-byte-preserved c =
    let i = c.loop-byte.byte-index in
    let digits = c.args.digits.now in
    let byte = get_or digits i 0 in
    let lt : i < length digits = omega arith in
    let here : c.from.result ≡ byte = c.from.ensures in
    let low : digit_value byte < 16 = subst (λ (b : ℕ). digit_value b < 16) here c.in_ok-digit.ensures.value.0 in
    let digit : c.from-in-loop-byte.result ≡ digit_value byte = c.from-in-loop-byte.ensures ∙ c.in_ok-digit.ensures.value.1 ∙ ap digit_value here in
    let more = digits_value_more 16 digits i lt in
    let step : 16 ^ (i + 1) ≡ 16 ^ i * 16 = rw add-one (omega arith) in
    record {
      digits = list_all_more (λ b. is_digit b 16) digits i 0 lt
          ∙ and_from (list_all (λ b. is_digit b 16) (take i digits)) (is_digit byte 16) c.loop-byte.invariant.digits (lt-ltb (digit_value byte) 16 low);
      value = omega (arith, digit, more, c.loop-byte.invariant.value);
      small = omega (arith, step, digit, low, c.loop-byte.invariant.small);
    }
