-- Digits that are added up to a number, as long as it has 64 bits.
use Rattle.std.proofs.Common.{◌≡◌, ℕ, ◌+◌, ◌-◌, ◌*◌, ◌^◌, ◌<◌, ◌≤◌, ◌⊎◌, ◌&&◌, Bool, true, false, List, length, take, get_or, Option, Some, None, refl, ap, ◌∙◌, inl, inr, arith, if◌then◌else◌, nat_le}
use Rattle.std.specs.Char.{is_digit, digit_value}
use Rattle.std.specs.List.{list_all}
use Rattle.std.specs.Str.Parse.{digits_value}
use Rattle.heap_terms.specs.Fields.{number_of}
use Rattle.command_words.specs.Forms.{seed_of}
use Rattle.std.proofs.lemmas.Bool.{lt-ltb, and_from, cases_Bool, ltb-true, le-leb, lt-leb}
use Rattle.std.proofs.lemmas.Int.Digits.{digits_value_more}
use Rattle.std.proofs.lemmas.List.Folds.{list_all_more, list_all_at}
use Rattle.std.proofs.lemmas.Str.{digit_value_digit}
use Rattle.std.proofs.lemmas.Str.Parse.{digit_from_value, digits_value-take-le}

abbrev pub decimal_digit : ℕ → Bool
decimal_digit c = is_digit c 10

digit_yes : (b : ℕ) → 48 ≤ b → b ≤ 57 → decimal_digit b ≡ true
digit_yes b low high = lt-ltb (digit_value b) 10 (let e : digit_value b + 48 ≡ b = digit_value_digit b (low, high) in omega arith)

digit_no : (b : ℕ) → ((b < 48) ⊎ (57 < b)) → decimal_digit b ≡ false
digit_no b out = elim (cases_Bool (decimal_digit b)) [
  | inl small ↦ let r = digit_from_value b (ltb-true (digit_value b) 10 small) in elim out [ inl low ↦ absurd (omega (arith, r.0, r.1)) | inr high ↦ absurd (omega (arith, r.0, r.1)) ]
  | inr other ↦ other
]

pub all_digits_more : (digits : List ℕ) (i : ℕ) → i < length digits → 48 ≤ get_or digits i 0 → get_or digits i 0 ≤ 57
    → list_all decimal_digit (take i digits) ≡ true → list_all decimal_digit (take (i + 1) digits) ≡ true
all_digits_more digits i lt low high so_far =
    list_all_more decimal_digit digits i 0 lt ∙ and_from (list_all decimal_digit (take i digits)) (decimal_digit (get_or digits i 0)) so_far (digit_yes (get_or digits i 0) low high)

-- one more digit
pub one_digit_more : (digits : List ℕ) (i : ℕ) → i < length digits → 48 ≤ get_or digits i 0 → get_or digits i 0 ≤ 57
    → digits_value 10 (take (i + 1) digits) ≡ digits_value 10 (take i digits) * 10 + (get_or digits i 0 - 48)
one_digit_more digits i lt low high =
    let more = digits_value_more 10 digits i lt in
    let one : digit_value (get_or digits i 0) + 48 ≡ get_or digits i 0 = digit_value_digit (get_or digits i 0) (low, high) in
    omega (arith, more, one)

-- what the digits say, where it is a number of 64 bits
abbrev pub said : List ℕ → Option ℕ
said digits = if list_all decimal_digit digits && nat_le (digits_value 10 digits) (2 ^ 64 - 1) then Some (digits_value 10 digits) else None

pub no_digits : (digits : List ℕ) (i : ℕ) → i < length digits → ((get_or digits i 0 < 48) ⊎ (57 < get_or digits i 0)) → None ≡ said digits
no_digits digits i lt out = rw (list_all_at decimal_digit digits i 0 lt (digit_no (get_or digits i 0) out)) refl

no_word : (digits : List ℕ) → 2 ^ 64 ≤ digits_value 10 digits → None ≡ said digits
no_word digits large = elim (cases_Bool (list_all decimal_digit digits)) [
  | inl all ↦ rw (all, lt-leb (digits_value 10 digits) (2 ^ 64 - 1) (omega arith)) refl
  | inr not ↦ rw not refl
]

-- the digits so far are too many for 64 bits already
pub too_large : (digits : List ℕ) (i n : ℕ) → 2 ^ 64 ≤ n → n ≤ digits_value 10 (take (i + 1) digits) → None ≡ said digits
too_large digits i n large reached = let below = digits_value-take-le 10 digits (i + 1) (omega arith) in no_word digits (omega (arith, below))

pub all_said : (digits : List ℕ) (n : ℕ) → list_all decimal_digit digits ≡ true → n ≡ digits_value 10 digits → n < 2 ^ 64 → Some n ≡ said digits
all_said digits n all is less = rw (all, le-leb (digits_value 10 digits) (2 ^ 64 - 1) (omega (arith, is))) (ap Some is)

-- with a right number of digits that is the seed
pub seed_said : (digits : List ℕ) → 1 ≤ length digits → length digits ≤ 20 → said digits ≡ seed_of digits
unfolding seed_of number_of
seed_said digits some few = rw (le-leb 1 (length digits) some, le-leb (length digits) 20 few) (elim (cases_Bool (list_all decimal_digit digits)) [
  | inl all ↦ rw all refl
  | inr not ↦ rw not refl
])

pub no_seed : (digits : List ℕ) → ((length digits < 1) ⊎ (20 < length digits)) → None ≡ seed_of digits
unfolding seed_of number_of
no_seed digits (inl none) = rw (lt-leb 1 (length digits) none) refl
no_seed digits (inr many) = elim (cases_Bool (nat_le 1 (length digits))) [
  | inl some ↦ rw (some, lt-leb (length digits) 20 many) refl
  | inr none ↦ rw none refl
]
