-- The value of digits, read from the left.
use Rattle.std.proofs.Common.{◌≡◌, ℕ, ◌+◌, ◌*◌, ◌^◌, ◌<◌, ◌≤◌, Bool, true, false, ltb, List, [], ◌∷◌, Option, Some, None, refl, ap, sym, ◌∙◌, arith, inl, inr, length, get_or, drop, add-one, drop-cons}
use Rattle.std.proofs.Math.ListN.{drop_of_length-le}
use Rattle.std.specs.Char.{digit_value}
use Rattle.std.specs.List.{list_all}
use Rattle.std.specs.Str.Parse.{digits_value_after}
use Rattle.std.proofs.lemmas.Bool.{lt-ltb, le-ltb, cases_Bool}
use Rattle.std.proofs.Math.Nat.{mul-le-mul_left}
use Rattle.journal_text.specs.FieldReading.{value_in, value_on}

pub value_from_zero : (base : ℕ) (is_one : ℕ → Bool) (digits : List ℕ) → value_on base is_one 0 digits ≡ value_in base is_one digits
unfolding value_on value_in
value_from_zero base is_one digits = refl

-- no digit is left
pub value_at_end : (base : ℕ) (is_one : ℕ → Bool) (value : ℕ) → value < 2 ^ 64 → value_on base is_one value [] ≡ Some value
unfolding value_on
value_at_end base is_one value small = let e : ltb value (2 ^ 64) ≡ true = lt-ltb value (2 ^ 64) small in rw e refl

-- the next byte is no digit
pub value_stopped : (base : ℕ) (is_one : ℕ → Bool) (value b : ℕ) (digits : List ℕ) → is_one b ≡ false → value_on base is_one value (b ∷ digits) ≡ None
unfolding value_on
value_stopped base is_one value b digits e = rw e refl

-- the next byte is a digit
pub value_more : (base : ℕ) (is_one : ℕ → Bool) (value b : ℕ) (digits : List ℕ) → is_one b ≡ true → value_on base is_one value (b ∷ digits) ≡ value_on base is_one (value * base + digit_value b) digits
unfolding value_on
value_more base is_one value b digits e = rw e refl

grows : (base value : ℕ) (digits : List ℕ) → 1 ≤ base → value ≤ digits_value_after base value digits
grows base value [] least = omega arith
grows base value (b ∷ digits) least =
    let step : value * 1 ≤ value * base = mul-le-mul_left value least in
    omega (arith, grows base (value * base + digit_value b) digits least)

-- what was read is too large already
pub value_over : (base : ℕ) (is_one : ℕ → Bool) (value : ℕ) (digits : List ℕ) → 1 ≤ base → 2 ^ 64 ≤ value → value_on base is_one value digits ≡ None
unfolding value_on
value_over base is_one value digits least large =
    let e : ltb (digits_value_after base value digits) (2 ^ 64) ≡ false = le-ltb _ _ (omega (arith, grows base value digits least)) in
    elim (cases_Bool (list_all is_one digits)) [ inl all ↦ rw (all, e) refl | inr other ↦ rw other refl ]

-- ---- the same at a place of the digits

pub next_byte : (bytes : List ℕ) (i : ℕ) → i < length bytes → drop i bytes ≡ get_or bytes i 0 ∷ drop (i + 1) bytes
next_byte bytes i lt = rw (add-one, drop-cons bytes i 0) refl

pub stopped_at : (base : ℕ) (is_one : ℕ → Bool) (digits : List ℕ) (i value : ℕ) (told : Option ℕ) → i < length digits → is_one (get_or digits i 0) ≡ false → value_on base is_one value (drop i digits) ≡ told → None ≡ told
stopped_at base is_one digits i value told lt at_none so_far = sym (value_stopped base is_one value (get_or digits i 0) (drop (i + 1) digits) at_none) ∙ ap (value_on base is_one value) (sym (next_byte digits i lt)) ∙ so_far

pub more_at : (base : ℕ) (is_one : ℕ → Bool) (digits : List ℕ) (i value next : ℕ) (told : Option ℕ) → i < length digits → is_one (get_or digits i 0) ≡ true → next ≡ value * base + digit_value (get_or digits i 0) → value_on base is_one value (drop i digits) ≡ told → value_on base is_one next (drop (i + 1) digits) ≡ told
more_at base is_one digits i value next told lt at_one e so_far =
    ap (λ n. value_on base is_one n (drop (i + 1) digits)) e ∙ sym (value_more base is_one value (get_or digits i 0) (drop (i + 1) digits) at_one) ∙ ap (value_on base is_one value) (sym (next_byte digits i lt)) ∙ so_far

pub over_at : (base : ℕ) (is_one : ℕ → Bool) (digits : List ℕ) (i value : ℕ) (told : Option ℕ) → 1 ≤ base → i < length digits → is_one (get_or digits i 0) ≡ true → 2 ^ 64 ≤ value * base + digit_value (get_or digits i 0) → value_on base is_one value (drop i digits) ≡ told → None ≡ told
over_at base is_one digits i value told least lt at_one large so_far =
    sym (value_over base is_one (value * base + digit_value (get_or digits i 0)) (drop (i + 1) digits) least large) ∙ more_at base is_one digits i value (value * base + digit_value (get_or digits i 0)) told lt at_one refl so_far

pub end_at : (base : ℕ) (is_one : ℕ → Bool) (digits : List ℕ) (i value : ℕ) (told : Option ℕ) → length digits ≤ i → value < 2 ^ 64 → value_on base is_one value (drop i digits) ≡ told → Some value ≡ told
end_at base is_one digits i value told past small so_far = sym (value_at_end base is_one value small) ∙ ap (value_on base is_one value) (sym (drop_of_length-le digits past)) ∙ so_far
