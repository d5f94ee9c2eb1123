-- Fields in their usual spelling, at the front of the bytes that are left.
use Rattle.std.proofs.Common.{◌≡◌, ℕ, zero, suc, ◌+◌, ◌-◌, ◌*◌, ◌<◌, ◌≤◌, true, false, eqb, leb, List, [], ◌∷◌, ◌++◌, length, take, drop, get_or, Some, refl, inl, inr, sym, ap, ◌∙◌, arith, append_assoc, take-append-drop}
use Rattle.std.specs.Prelude.{decimal}
use Rattle.std.specs.Char.{digit_value}
use Rattle.std.specs.List.{list_all}
use Rattle.std.specs.Str.Parse.{digits_value}
use Rattle.std.proofs.lemmas.Bool.{and_from, and_parts, cases_Bool, le-leb, leb-true, ne_eqb}
use Rattle.std.proofs.lemmas.Fmt.{decimal_digit}
use Rattle.std.proofs.lemmas.Int.Digits.{digits_value_more}
use Rattle.std.proofs.lemmas.List.Folds.{list_all_more}
use Rattle.std.proofs.lemmas.Str.{digit_value_digit}
use Rattle.journal_text.specs.FieldReading.{a_number, is_decimal, is_loose, value_in}
use Rattle.journal_text.proofs.Numerals.{number_sound, value_again}

-- ---- texts one behind the other

pub two_texts : (a b c x y : List ℕ) → a ≡ x ++ b → b ≡ y ++ c → a ≡ (x ++ y) ++ c
two_texts a b c x y e f = e ∙ ap (λ (t : List ℕ). x ++ t) f ∙ sym (append_assoc x y c)

pub three_texts : (a b c d x y z : List ℕ) → a ≡ x ++ b → b ≡ y ++ c → c ≡ z ++ d → a ≡ (x ++ y ++ z) ++ d
three_texts a b c d x y z e f g = two_texts a c d (x ++ y) z (two_texts a b c x y e f) g

-- ---- the digits of a number

-- what a loop over digits has read
pub record Read (bytes : List ℕ) (len value : ℕ) : Type 0 where
  pub within : len ≤ length bytes
  pub digits : list_all is_decimal (take len bytes) ≡ true
  pub says : value ≡ digits_value 10 (take len bytes)
  pub small : value < 1000000000000000000

pub read_none : (bytes : List ℕ) → Read bytes 0 0
read_none bytes = record { within = omega arith; digits = refl; says = refl; small = omega arith }

-- the value of a digit
digit_is : (b : ℕ) → is_decimal b ≡ true → (48 ≤ b) × (b ≤ 57) × (digit_value b + 48 ≡ b)
digit_is b e =
    let both = and_parts (leb 48 b) (leb b 57) e in
    let low = leb-true 48 b both.0 in
    let high = leb-true b 57 both.1 in
    (low, high, digit_value_digit b (low, high))

-- one more digit
pub read_more : (bytes : List ℕ) (len value : ℕ) → len < length bytes → value < 100000000000000000 → is_decimal (get_or bytes len 0) ≡ true → Read bytes len value →
    Read bytes (len + 1) (value * 10 + (get_or bytes len 0 - 48))
read_more bytes len value lt small one r =
    let d = digit_is (get_or bytes len 0) one in
    let more = digits_value_more 10 bytes len lt in
    record {
      within = omega arith;
      digits = list_all_more is_decimal bytes len 0 lt ∙ and_from (list_all is_decimal (take len bytes)) (is_decimal (get_or bytes len 0)) r.digits one;
      says = omega (arith, d.2, more, r.says);
      small = omega (arith, d.1, small);
    }

-- digits are the spelling of their value
digits_text : (digits : List ℕ) (v : ℕ) → list_all is_decimal digits ≡ true → is_loose digits ≡ false → v ≡ digits_value 10 digits → v < 1000000000000000000 → digits ≡ decimal v
unfolding a_number
digits_text digits v all tight says small =
    let k : value_in 10 is_decimal digits ≡ Some v = value_again 10 is_decimal digits all (omega arith) ∙ ap Some (sym says) in
    let most : leb v 18446744073709551615 ≡ true = le-leb v 18446744073709551615 (omega arith) in
    let n : a_number 18446744073709551615 digits ≡ Some v = rw (tight, k, most) refl in
    (number_sound 18446744073709551615 digits v n).0

tight_front : (bytes : List ℕ) (len : ℕ) → 0 < len → len ≤ length bytes → (1 < len → get_or bytes 0 0 ≡ 48 → ⊥) → is_loose (take len bytes) ≡ false
tight_front bytes zero some within lead = absurd (omega arith)
tight_front [] (suc len) some within lead = absurd (omega arith)
tight_front (b ∷ bytes) (suc zero) some within lead = elim (cases_Bool (eqb b 48)) [ inl e ↦ rw e refl | inr e ↦ rw e refl ]
tight_front (b ∷ []) (suc (suc len)) some within lead = absurd (omega arith)
tight_front (b ∷ c ∷ bytes) (suc (suc len)) some within lead = let e : eqb b 48 ≡ false = ne_eqb b 48 (lead (omega arith)) in rw e refl

pub number_text : (bytes after : List ℕ) (len value : ℕ) → 0 < len → (1 < len → get_or bytes 0 0 ≡ 48 → ⊥) → after ≡ drop len bytes → Read bytes len value → bytes ≡ decimal value ++ after
number_text bytes after len value some lead rest r =
    let digits : take len bytes ≡ decimal value = digits_text (take len bytes) value r.digits (tight_front bytes len some r.within lead) r.says r.small in
    sym (take-append-drop len bytes) ∙ (λ i. digits i ++ sym rest i)

-- ---- a cell

pub one_digit : (bytes after : List ℕ) → 2 ≤ length bytes → 48 ≤ get_or bytes 0 0 → get_or bytes 0 0 ≤ 57 → after ≡ drop 1 bytes → bytes ≡ decimal (get_or bytes 0 0 - 48) ++ after
one_digit [] after long low high rest = absurd (omega arith)
one_digit (b ∷ bytes) after long low high rest =
    let text : decimal (b - 48) ≡ b ∷ [] = decimal_digit (b - 48) (omega arith) ∙ ap (λ n. n ∷ []) (omega arith) in
    rw (text, rest) refl

pub two_digits : (bytes after : List ℕ) → 2 ≤ length bytes → get_or bytes 0 0 ≡ 49 → 48 ≤ get_or bytes 1 0 → get_or bytes 1 0 ≤ 53 → after ≡ drop 2 bytes →
    bytes ≡ decimal (get_or bytes 1 0 - 48 + 10) ++ after
two_digits [] after long one low high rest = absurd (omega arith)
two_digits (a ∷ []) after long one low high rest = absurd (omega arith)
two_digits (a ∷ b ∷ bytes) after long one low high rest =
    let over : leb 48 b ≡ true = le-leb 48 b low in
    let under : leb b 57 ≡ true = le-leb b 57 (omega arith) in
    let d : digit_value b + 48 ≡ b = digit_value_digit b (low, omega arith) in
    let text : 49 ∷ b ∷ [] ≡ decimal (b - 48 + 10) = digits_text (49 ∷ b ∷ []) (b - 48 + 10) (rw (over, under) refl) refl (omega (arith, d)) (omega arith) in
    rw (← text, one, rest) refl

pub cell_at : (bytes digits after : List ℕ) (letter n : ℕ) → 2 ≤ length bytes → get_or bytes 0 0 ≡ 32 → get_or bytes 1 0 ≡ letter → digits ≡ drop 2 bytes → digits ≡ decimal n ++ after →
    bytes ≡ (32 ∷ (letter ∷ decimal n)) ++ after
cell_at [] digits after letter n long space kind rest text = absurd (omega arith)
cell_at (a ∷ []) digits after letter n long space kind rest text = absurd (omega arith)
cell_at (a ∷ b ∷ bytes) digits after letter n long space kind rest text = λ i. space i ∷ (kind i ∷ (sym rest ∙ text) i)
