-- Digits: which bytes they are, and a loop that adds them up to a number that stops at its end.
use Rattle.std.proofs.Common.{◌≡◌, ℕ, ◌+◌, ◌-◌, ◌*◌, ◌<◌, ◌≤◌, ◌⊎◌, min, Bool, true, false, List, length, take, get_or, ◌∙◌, inl, inr, arith}
use Rattle.std.specs.Char.{is_digit, digit_value}
use Rattle.std.specs.List.{list_all}
use Rattle.std.specs.Str.Parse.{digits_value}
use Rattle.std.proofs.lemmas.Bool.{lt-ltb, and_from, cases_Bool, ltb-true}
use Rattle.std.proofs.lemmas.Int.Digits.{digits_value_more}
use Rattle.std.proofs.lemmas.List.Folds.{list_all_more, list_all_at}
use Rattle.std.proofs.lemmas.Str.{digit_value_digit}
use Rattle.std.proofs.lemmas.Str.Parse.{digit_from_value}

abbrev pub decimal_digit : ℕ → Bool
decimal_digit c = is_digit c 10

pub digit_yes : (b : ℕ) → 48 ≤ b → b ≤ 57 → decimal_digit b ≡ true
digit_yes b low high = lt-ltb (digit_value b) 10 (let e : digit_value b + 48 ≡ b = digit_value_digit b (low, high) in omega arith)

pub digit_no : (b : ℕ) → ((b < 48) ⊎ (57 < b)) → decimal_digit b ≡ false
digit_no b out = elim (cases_Bool (decimal_digit b)) [
  | inl small ↦ let r = digit_from_value b (ltb-true (digit_value b) 10 small) in elim out [ inl low ↦ absurd (omega (arith, r.0, r.1)) | inr high ↦ absurd (omega (arith, r.0, r.1)) ]
  | inr other ↦ other
]

-- one more digit
pub adds_digit : (digits : List ℕ) (i v most : ℕ) → i < length digits → 48 ≤ get_or digits i 0 → get_or digits i 0 ≤ 57
    → v ≡ min (digits_value 10 (take i digits)) most → min (min (v * 10) most + (get_or digits i 0 - 48)) most ≡ min (digits_value 10 (take (i + 1) digits)) most
adds_digit digits i v most lt low high so_far =
    let more = digits_value_more 10 digits i lt in
    let one : digit_value (get_or digits i 0) + 48 ≡ get_or digits i 0 = digit_value_digit (get_or digits i 0) (low, high) in
    omega arith

pub all_digits_more : (digits : List ℕ) (i : ℕ) → i < length digits → 48 ≤ get_or digits i 0 → get_or digits i 0 ≤ 57
    → list_all decimal_digit (take i digits) ≡ true → list_all decimal_digit (take (i + 1) digits) ≡ true
all_digits_more digits i lt low high so_far =
    list_all_more decimal_digit digits i 0 lt ∙ and_from (list_all decimal_digit (take i digits)) (decimal_digit (get_or digits i 0)) so_far (digit_yes (get_or digits i 0) low high)

pub no_digits : (digits : List ℕ) (i : ℕ) → i < length digits → ((get_or digits i 0 < 48) ⊎ (57 < get_or digits i 0)) → list_all decimal_digit digits ≡ false
no_digits digits i lt out = list_all_at decimal_digit digits i 0 lt (digit_no (get_or digits i 0) out)
