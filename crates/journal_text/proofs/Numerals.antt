-- Numbers and their one spelling.
use Rattle.std.proofs.Common.{◌≡◌, ℕ, ℤ, pos, negsuc, zero, suc, ◌-◌, ◌^◌, ◌<◌, ◌≤◌, Bool, true, false, ltb, leb, eqb, ◌&&◌, List, [], ◌∷◌, length, get_or, Some, option_map, refl, ap, sym, ◌∙◌, subst, arith, inl, inr}
use Rattle.std.specs.Fmt.{decimal, signed_decimal}
use Rattle.std.specs.List.{list_all}
use Rattle.std.specs.Str.Parse.{digits_value}
use Rattle.std.proofs.lemmas.Bool.{lt-ltb, eq-eqb, false≢true, le-leb, leb-true, ltb-true, ne_eqb, eqb-true, cases_Bool, and_parts}
use Rattle.std.proofs.lemmas.Fmt.{decimal-digits_value, digits_decimal, digits_value-decimal, decimal_nonempty, decimal_digit, first_decimal}
use Rattle.std.specs.Option.{option_and_then}
use Rattle.std.proofs.lemmas.Option.{option_and_then_some, cond_some}
use Rattle.std.proofs.lemmas.Str.Parse.{IsNumeralModel, numerals_by_value, IsDigitsTest}
use Rattle.journal_text.specs.LineReading.{a_count, positive}
use Rattle.journal_text.proofs.Binding.{bind_some, map_some}
use Rattle.journal_text.specs.FieldReading.{value_in, is_decimal, at_most, is_loose, a_number, a_signed, negative}

-- std's words for decimal digits, in those of this crate
digits_test : IsDigitsTest (λ ds. list_all is_decimal ds ≡ true)
digits_test = record {
  empty = refl;
  parts = λ c cs e. let both = and_parts (is_decimal c) (list_all is_decimal cs) e in let ends = and_parts (leb 48 c) (leb c 57) both.0 in ((leb-true 48 c ends.0, leb-true c 57 ends.1), both.1);
  more = λ c cs k e. let low = le-leb 48 c k.0 in let high = le-leb c 57 k.1 in rw (low, high) e;
}

own : IsNumeralModel (λ ds. list_all is_decimal ds ≡ true) (digits_value 10)
own = numerals_by_value (λ ds. list_all is_decimal ds ≡ true) digits_test

-- what value_in answers
pub value_told : (base : ℕ) (is_one : ℕ → Bool) (digits : List ℕ) (n : ℕ) → value_in base is_one digits ≡ Some n → (list_all is_one digits ≡ true) × (digits_value base digits < 2 ^ 64) × (digits_value base digits ≡ n)
unfolding value_in
value_told base is_one digits n e =
    let t = cond_some (list_all is_one digits && ltb (digits_value base digits) (2 ^ 64)) (digits_value base digits) n e in
    let both = and_parts (list_all is_one digits) (ltb (digits_value base digits) (2 ^ 64)) t.0 in
    (both.0, ltb-true _ _ both.1, t.1)

pub value_again : (base : ℕ) (is_one : ℕ → Bool) (digits : List ℕ) → list_all is_one digits ≡ true → digits_value base digits < 2 ^ 64 → value_in base is_one digits ≡ Some (digits_value base digits)
unfolding value_in
value_again base is_one digits all small = let e : ltb (digits_value base digits) (2 ^ 64) ≡ true = lt-ltb _ _ small in rw (all, e) refl

-- digits that are not loose
strict : (digits : List ℕ) → is_loose digits ≡ false → (0 < length digits) × (get_or digits 0 0 ≡ 48 → length digits ≡ 1)
strict [] e = absurd cc
strict (b ∷ []) e = (omega arith, λ z. refl)
strict (b ∷ d ∷ digits) e = (omega arith, λ (z : b ≡ 48). absurd (let t : eqb b 48 ≡ true = eq-eqb b 48 z in false≢true (sym e ∙ rw t refl)))

not_loose : (digits : List ℕ) → 0 < length digits → (get_or digits 0 0 ≡ 48 → length digits ≡ 1) → is_loose digits ≡ false
not_loose [] some lead = absurd (omega arith)
not_loose (b ∷ []) some lead = elim (cases_Bool (eqb b 48)) [ inl t ↦ rw t refl | inr f ↦ rw f refl ]
not_loose (b ∷ d ∷ digits) some lead =
    let f : eqb b 48 ≡ false = ne_eqb b 48 (λ z. let one : suc (suc (length digits)) ≡ 1 = lead z in omega arith) in rw f refl

-- a decimal number begins with a zero only where it is 0
leading : (n : ℕ) → n < 2 ^ 64 → get_or (decimal n) 0 0 ≡ 48 → length (decimal n) ≡ 1
leading zero fits e = ap length (decimal_digit 0 (omega arith))
leading (suc n) fits e = absurd (omega (arith, first_decimal (suc n) (omega arith) fits))

-- and with a digit
first_digit : (xs : List ℕ) → 0 < length xs → list_all is_decimal xs ≡ true → get_or xs 0 0 ≡ 45 → ⊥
first_digit [] some all e = omega arith
first_digit (b ∷ xs) some all e =
    let both = and_parts (is_decimal b) (list_all is_decimal xs) all in
    let low = leb-true 48 b (and_parts (leb 48 b) (leb b 57) both.0).0 in
    omega arith

-- a signed number from -most to most - 1
abbrev pub IsWithin : ℕ → ℤ → Type 0
IsWithin most (pos n) = n < most
IsWithin most (negsuc n) = n < most

pub number_sound : (most : ℕ) (f : List ℕ) (n : ℕ) → a_number most f ≡ Some n → (f ≡ decimal n) × (n ≤ most)
unfolding a_number
number_sound most f n e = elim (cases_Bool (is_loose f)) [
  | inl loose ↦ absurd (let k = rw loose at e in cc)
  | inr good ↦
      let k : option_and_then (at_most most) (value_in 10 is_decimal f) ≡ Some n = rw good at e in
      option_and_then_some (at_most most) (value_in 10 is_decimal f) n k (λ x told within.
      let t = value_told 10 is_decimal f x told in
      let w = cond_some (leb x most) x n within in
      let lead = strict f good in
      (sym (decimal-digits_value own f t.0 lead.0 lead.1 t.1) ∙ ap decimal (t.2 ∙ w.1), subst (λ m. m ≤ most) w.1 (leb-true x most w.0)))
]

pub number_complete : (most n : ℕ) → most < 2 ^ 64 → n ≤ most → a_number most (decimal n) ≡ Some n
unfolding a_number
number_complete most n small within =
    let fits : n < 2 ^ 64 = omega arith in
    let good : is_loose (decimal n) ≡ false = not_loose (decimal n) (decimal_nonempty n fits) (leading n fits) in
    let is : digits_value 10 (decimal n) ≡ n = digits_value-decimal own n fits in
    let told : value_in 10 is_decimal (decimal n) ≡ Some n = value_again 10 is_decimal (decimal n) (digits_decimal own n fits) (omega (arith, is)) ∙ ap Some is in
    let most_yes : leb n most ≡ true = le-leb n most within in
    rw (good, told, most_yes) refl

pub count_sound : (most : ℕ) (f : List ℕ) (n : ℕ) → a_count most f ≡ Some n → (f ≡ decimal n) × (1 ≤ n) × (n ≤ most)
unfolding a_count
count_sound most f n e =
    let b = bind_some (a_number most f) positive n e in
    let p = positive_told b.0 n b.2 in
    let told : a_number most f ≡ Some n = b.1 ∙ ap Some p.0 in
    let t = number_sound most f n told in
    (t.0, p.1, t.1)
  where
    positive_told : (m n : ℕ) → positive m ≡ Some n → (m ≡ n) × (1 ≤ n)
    positive_told zero n e = absurd cc
    positive_told (suc m) n e = let same : suc m ≡ n = cc in (same, omega arith)

pub count_complete : (most n : ℕ) → most < 2 ^ 64 → 1 ≤ n → n ≤ most → a_count most (decimal n) ≡ Some n
unfolding a_count
count_complete most zero small least within = absurd (omega arith)
count_complete most (suc n) small least within = let e = number_complete most (suc n) small within in rw e refl

pub signed_sound : (most : ℕ) (f : List ℕ) (z : ℤ) → 1 ≤ most → a_signed most f ≡ Some z → (f ≡ signed_decimal z) × IsWithin most z
unfolding a_signed
signed_sound most [] z least e = absurd cc
signed_sound most (b ∷ digits) z least e = elim (cases_Bool (eqb b 45)) [
  | inl minus ↦
      let k : option_and_then negative (a_number most digits) ≡ Some z = rw minus at e in
      option_and_then_some negative (a_number most digits) z k (λ x told is. at_minus x told is (eqb-true b 45 minus))
  | inr other ↦
      let k : option_map pos (a_number (most - 1) (b ∷ digits)) ≡ Some z = rw other at e in
      let m = map_some pos (a_number (most - 1) (b ∷ digits)) z k in
      let t = number_sound (most - 1) (b ∷ digits) m.0 m.1 in
      subst (λ (y : ℤ). (b ∷ digits ≡ signed_decimal y) × IsWithin most y) m.2 (t.0, omega (arith, t.1))
]
  where
    at_minus : (x : ℕ) → a_number most digits ≡ Some x → negative x ≡ Some z → b ≡ 45 → (b ∷ digits ≡ signed_decimal z) × IsWithin most z
    at_minus zero told is same = absurd cc
    at_minus (suc x) told is same =
        let t = number_sound most digits (suc x) told in
        let y : negsuc x ≡ z = cc in
        subst (λ (y : ℤ). (b ∷ digits ≡ signed_decimal y) × IsWithin most y) y (λ i. same i ∷ t.0 i, omega (arith, t.1))

unsigned : (most : ℕ) (xs : List ℕ) → 0 < length xs → (get_or xs 0 0 ≡ 45 → ⊥) → a_signed most xs ≡ option_map pos (a_number (most - 1) xs)
unfolding a_signed
unsigned most [] some other = absurd (omega arith)
unsigned most (b ∷ xs) some other = let e : eqb b 45 ≡ false = ne_eqb b 45 other in rw e refl

pub signed_complete : (most : ℕ) (z : ℤ) → most < 2 ^ 64 → IsWithin most z → a_signed most (signed_decimal z) ≡ Some z
unfolding a_signed
signed_complete most (pos n) small within =
    let fits : n < 2 ^ 64 = omega arith in
    unsigned most (decimal n) (decimal_nonempty n fits) (first_digit (decimal n) (decimal_nonempty n fits) (digits_decimal own n fits))
    ∙ ap (option_map pos) (number_complete (most - 1) n (omega arith) (omega arith))
signed_complete most (negsuc n) small within = let e = number_complete most (suc n) small (omega arith) in rw e refl

-- the digits of a number
pub decimal_some : (n : ℕ) → n < 2 ^ 64 → 0 < length (decimal n)
decimal_some n small = decimal_nonempty n small

pub decimal_digits : (n : ℕ) → n < 2 ^ 64 → list_all is_decimal (decimal n) ≡ true
decimal_digits n small = digits_decimal own n small

pub decimal_byte : (xs : List ℕ) → list_all is_decimal xs ≡ true → (k : ℕ) → k < length xs → (48 ≤ get_or xs k 0) × (get_or xs k 0 ≤ 57)
decimal_byte [] all k lt = absurd (omega arith)
decimal_byte (b ∷ xs) all zero lt =
    let both = and_parts (is_decimal b) (list_all is_decimal xs) all in
    let ends = and_parts (leb 48 b) (leb b 57) both.0 in
    (leb-true 48 b ends.0, leb-true b 57 ends.1)
decimal_byte (b ∷ xs) all (suc k) lt = decimal_byte xs (and_parts (is_decimal b) (list_all is_decimal xs) all).1 k (omega arith)
