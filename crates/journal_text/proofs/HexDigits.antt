-- Raw words and their one spelling.
use Rattle.std.proofs.Common.{◌≡◌, ℕ, zero, suc, ◌+◌, ◌-◌, ◌*◌, ◌/◌, ◌%◌, ◌^◌, ◌<◌, ◌≤◌, true, false, ltb, leb, eqb, ◌&&◌, List, [], ◌∷◌, ◌++◌, length, get_or, take, drop, Some, refl, ap, sym, ◌∙◌, arith, inl, inr, add-one, take_all, take-append-drop, length-drop, length-append}
use Rattle.std.specs.Char.{digit_value}
use Rattle.std.specs.List.{list_all}
use Rattle.std.specs.Str.{bytes_eq}
use Rattle.std.specs.Str.Parse.{digits_value, digits_value_after}
use Rattle.std.specs.Prelude.{codes}
use Rattle.std.proofs.lemmas.Bool.{lt-ltb, le-ltb, le-leb, leb-true, ltb-true, eqb-true, cases_Bool, and_parts, ltb-false, lt-leb, eq-eqb}
use Rattle.std.proofs.Math.Nat.{pow-zero, pow-succ'}
use Rattle.std.proofs.lemmas.Int.Digits.{digits_value_more}
use Rattle.std.proofs.lemmas.List.{take_more}
use Rattle.std.proofs.lemmas.List.Folds.{list_all-append}
use Rattle.std.proofs.lemmas.Slice.Eq.{bytes_eq-Decides}
use Rattle.std.proofs.lemmas.Str.{digit_value_digit, digit_value-digit_char}
use Rattle.heap_terms.specs.Text.{hex_digit, hex_digits, word_text}
use Rattle.journal_text.specs.FieldReading.{a_word, is_decimal, is_hex, value_in}
use Rattle.journal_text.proofs.Numerals.{value_told, value_again}

-- ---- one digit

small_letter : (b : ℕ) → 97 ≤ b → b ≤ 102 → digit_value b ≡ b - 87
small_letter b low high =
    let a : ltb b 48 ≡ false = le-ltb b 48 (omega arith) in
    let c : ltb b 58 ≡ false = le-ltb b 58 (omega arith) in
    let d : ltb b 65 ≡ false = le-ltb b 65 (omega arith) in
    let e : ltb b 91 ≡ false = le-ltb b 91 (omega arith) in
    let f : ltb b 97 ≡ false = le-ltb b 97 (omega arith) in
    let g : ltb b 123 ≡ true = lt-ltb b 123 (omega arith) in
    rw (a, c, d, e, f, g) refl

digit_small : (d : ℕ) → d < 10 → hex_digit d ≡ 48 + d
digit_small d small = let e : ltb d 10 ≡ true = lt-ltb d 10 small in rw e refl

digit_large : (d : ℕ) → 10 ≤ d → hex_digit d ≡ 87 + d
digit_large d large = let e : ltb d 10 ≡ false = le-ltb d 10 large in rw e refl

digit_back : (b : ℕ) → is_hex b ≡ true → (digit_value b < 16) × (hex_digit (digit_value b) ≡ b)
digit_back b good = elim (cases_Bool (is_decimal b)) [
  | inl dec ↦
      let both = and_parts (leb 48 b) (leb b 57) dec in
      let low = leb-true 48 b both.0 in
      let high = leb-true b 57 both.1 in
      let v = digit_value_digit b (low, high) in
      (omega (arith, v), digit_small (digit_value b) (omega (arith, v)) ∙ omega (arith, v))
  | inr other ↦
      let rest : (leb 97 b && leb b 102) ≡ true = rw other at good in
      let both = and_parts (leb 97 b) (leb b 102) rest in
      let low = leb-true 97 b both.0 in
      let high = leb-true b 102 both.1 in
      let v = small_letter b low high in
      (omega (arith, v), digit_large (digit_value b) (omega (arith, v)) ∙ omega (arith, v))
]

digit_is_hex : (d : ℕ) → d < 16 → is_hex (hex_digit d) ≡ true
digit_is_hex d small = elim (cases_Bool (ltb d 10)) [
  | inl less ↦
      let lt = ltb-true d 10 less in
      let low : leb 48 (48 + d) ≡ true = le-leb 48 (48 + d) (omega arith) in
      let high : leb (48 + d) 57 ≡ true = le-leb (48 + d) 57 (omega arith) in
      rw (digit_small d lt, low, high) refl
  | inr more ↦
      let large : 10 ≤ d = ltb-false d 10 more in
      let low : leb 48 (87 + d) ≡ true = le-leb 48 (87 + d) (omega arith) in
      let not_high : leb (87 + d) 57 ≡ false = lt-leb (87 + d) 57 (omega arith) in
      let low2 : leb 97 (87 + d) ≡ true = le-leb 97 (87 + d) (omega arith) in
      let high2 : leb (87 + d) 102 ≡ true = le-leb (87 + d) 102 (omega arith) in
      rw (digit_large d large, low, not_high, low2, high2) refl
]

-- ---- all digits

all_at : (ds : List ℕ) (i : ℕ) → i < length ds → list_all is_hex ds ≡ true → is_hex (get_or ds i 0) ≡ true
all_at [] i lt all = absurd (omega arith)
all_at (b ∷ ds) zero lt all = (and_parts (is_hex b) (list_all is_hex ds) all).0
all_at (b ∷ ds) (suc i) lt all = all_at ds i (omega arith) (and_parts (is_hex b) (list_all is_hex ds) all).1

back : (ds : List ℕ) → list_all is_hex ds ≡ true → (i : ℕ) → i ≤ length ds → hex_digits i (digits_value 16 (take i ds)) ≡ take i ds
unfolding hex_digits
back ds all zero within = refl
back ds all (suc i) within =
    let lt : i < length ds = omega arith in
    let b = get_or ds i 0 in
    let d = digit_back b (all_at ds i lt all) in
    let grown : digits_value 16 (take (suc i) ds) ≡ digits_value 16 (take i ds) * 16 + digit_value b = ap (λ k. digits_value 16 (take k ds)) (sym (add-one i)) ∙ (omega (arith, digits_value_more 16 ds i lt)) in
    let front : digits_value 16 (take (suc i) ds) / 16 ≡ digits_value 16 (take i ds) = omega (arith, grown, d.0) in
    let last : digits_value 16 (take (suc i) ds) % 16 ≡ digit_value b = omega (arith, grown, d.0) in
    (λ j. hex_digits i (front j) ++ (hex_digit (last j) ∷ []))
    ∙ (λ j. back ds all i (omega arith) j ++ (d.1 j ∷ []))
    ∙ sym (take_more ds i 0 lt) ∙ ap (λ k. take k ds) (add-one i)

value_snoc : (n h : ℕ) (xs : List ℕ) → digits_value_after 16 n (xs ++ (h ∷ [])) ≡ digits_value_after 16 n xs * 16 + digit_value h
value_snoc n h [] = refl
value_snoc n h (x ∷ xs) = value_snoc (n * 16 + digit_value x) h xs

pub value_of_hex : (k w : ℕ) → w < 16 ^ k → digits_value 16 (hex_digits k w) ≡ w
unfolding hex_digits
value_of_hex zero w small = omega (arith, pow-zero 16)
value_of_hex (suc k) w small =
    let less : w / 16 < 16 ^ k = omega (arith, pow-succ' 16 k) in
    value_snoc 0 (hex_digit (w % 16)) (hex_digits k (w / 16))
    ∙ omega (arith, value_of_hex k (w / 16) less, digit_value-digit_char (w % 16) (omega arith))

pub hex_all : (k w : ℕ) → list_all is_hex (hex_digits k w) ≡ true
unfolding hex_digits
hex_all zero w = refl
hex_all (suc k) w =
    let last : is_hex (hex_digit (w % 16)) ≡ true = digit_is_hex (w % 16) (omega arith) in
    list_all-append is_hex (hex_digits k (w / 16)) (hex_digit (w % 16) ∷ []) ∙ rw (hex_all k (w / 16), last) refl

pub hex_length : (k w : ℕ) → length (hex_digits k w) ≡ k
unfolding hex_digits
hex_length zero w = refl
hex_length (suc k) w = omega (arith, length-append (hex_digits k (w / 16)) (hex_digit (w % 16) ∷ []), hex_length k (w / 16))

-- ---- words

pub word_sound : (f : List ℕ) (w : ℕ) → a_word f ≡ Some w → (f ≡ word_text w) × (w < 2 ^ 64)
unfolding a_word
word_sound f w e = elim (cases_Bool (eqb (length f) 18 && bytes_eq (take 2 f) (codes "0x"))) [
  | inr other ↦ absurd (let k = rw other at e in cc)
  | inl good ↦
      let both = and_parts (eqb (length f) 18) (bytes_eq (take 2 f) (codes "0x")) good in
      let long : length f ≡ 18 = eqb-true (length f) 18 both.0 in
      let mark : take 2 f ≡ codes "0x" = (bytes_eq-Decides (take 2 f) (codes "0x")).0 both.1 in
      let t = value_told 16 is_hex (drop 2 f) w (rw good at e) in
      let count : length (drop 2 f) ≡ 16 = omega (arith, length-drop 2 f) in
      let whole : take 16 (drop 2 f) ≡ drop 2 f = take_all 16 (drop 2 f) (omega (arith, count)) in
      let digits : hex_digits 16 w ≡ drop 2 f = ap (hex_digits 16) (sym t.2) ∙ ap (λ (xs : List ℕ). hex_digits 16 (digits_value 16 xs)) (sym whole) ∙ back (drop 2 f) t.0 16 (omega (arith, count)) ∙ whole in
      (sym (take-append-drop 2 f) ∙ ap (λ (xs : List ℕ). xs ++ drop 2 f) mark ∙ ap (λ (xs : List ℕ). codes "0x" ++ xs) (sym digits), omega (arith, t.1, t.2))
]

pub word_complete : (w : ℕ) → w < 2 ^ 64 → a_word (word_text w) ≡ Some w
unfolding a_word
word_complete w small =
    let is : digits_value 16 (hex_digits 16 w) ≡ w = value_of_hex 16 w small in
    let told : value_in 16 is_hex (hex_digits 16 w) ≡ Some w = value_again 16 is_hex (hex_digits 16 w) (hex_all 16 w) (omega (arith, is)) ∙ ap Some is in
    let long : eqb (suc (suc (length (hex_digits 16 w)))) 18 ≡ true = eq-eqb (suc (suc (length (hex_digits 16 w)))) 18 (omega (arith, hex_length 16 w)) in
    rw long told
