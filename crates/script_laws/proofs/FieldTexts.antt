-- What the text of a field says.
use Rattle.std.proofs.Common.{◌≡◌, ℕ, ℤ, pos, negsuc, zero, suc, ◌+◌, ◌-◌, ◌*◌, ◌/◌, ◌%◌, ◌^◌, ◌<◌, ◌≤◌, Bool, true, false, cond, eqb, leb, ltb, not, ◌&&◌, ◌||◌, List, [], ◌∷◌, ◌++◌, length, get_or, Some, refl, ap, ◌∙◌, inl, inr, arith, length-append, eq-zero-or-pos, T, eqb→eq}
use lib.Ieee.Fits.{and_l, and_r}
use Rattle.std.specs.Prelude.{decimal, codes}
use Rattle.std.specs.Char.{is_digit, digit_value}
use Rattle.std.specs.Fmt.{signed_decimal}
use Rattle.std.specs.List.{list_all, All, AllPass}
use Rattle.std.specs.Str.Parse.{AllDigits, digits_value, digits_value_after}
use Rattle.std.proofs.lemmas.Bool.{lt-ltb, le-leb, ne_eqb}
use Rattle.std.proofs.lemmas.Fmt.{decimal_is_IsNumeral, decimal_nonempty, first_decimal, decimal_digit, length-decimal-le}
use Rattle.std.proofs.lemmas.List.Elements.{All-nil, All-cons, All-append, All-from_get_or}
use Rattle.std.proofs.lemmas.List.Sums.{list_all-from_AllPass}
use Rattle.std.proofs.lemmas.Str.Parse.{digit_at}
use Rattle.heap_terms.specs.declared.cells.Cell.{Cell}
use Rattle.heap_terms.specs.declared.cells.Cell.TheVariants.{Stack, Exact, Shared}
use Rattle.heap_terms.specs.declared.cells.Raw.{Raw}
use Rattle.heap_terms.specs.declared.kinds.Weakness.{Weakness}
use Rattle.heap_terms.specs.declared.kinds.Weakness.TheVariants as weaknesses
use Rattle.heap_terms.specs.Fields.{number_of, signed_of, raw_word_of, cell_number, cell_of, raw_cell_of, weakness_named}
use Rattle.heap_terms.specs.Text.{cell_text, word_text, hex_digit, hex_digits, weakness_text}
use Rattle.heap_terms.specs.Valid.{IsCell, IsRaw, IsFixnum, IsSigned}
use Rattle.script_laws.proofs.Lines.{IsWord, is_solid, written}

-- ---- numbers

decimal_digits : (n : ℕ) → n < 2 ^ 64 → (i : ℕ) → i < length (decimal n) → (48 ≤ get_or (decimal n) i 0) × (get_or (decimal n) i 0 ≤ 57)
decimal_digits n small i lt = let r = digit_at (decimal n) i (decimal_is_IsNumeral n small).0.1 lt in (r.0, r.1)

pub decimal_word : (n : ℕ) → n < 2 ^ 64 → IsWord (decimal n)
decimal_word n small = record {
  some = decimal_nonempty n small;
  solid = All-from_get_or (λ b. is_solid b ≡ true) (decimal n) 0 (λ i lt. let d = decimal_digits n small i lt in lt-ltb 32 (get_or (decimal n) i 0) (omega (arith, d.0)));
}

pub digits_high : (n : ℕ) → n < 2 ^ 64 → All (λ b. 48 ≤ b) (decimal n)
digits_high n small = All-from_get_or (λ b. 48 ≤ b) (decimal n) 0 (λ i lt. (decimal_digits n small i lt).0)

digits_pass : (ds : List ℕ) → AllDigits 10 ds → AllPass (λ c. is_digit c 10) ds
digits_pass [] h = All-nil _
digits_pass (c ∷ cs) h = All-cons (λ c. is_digit c 10 ≡ true) c cs (lt-ltb (digit_value c) 10 h.0) (digits_pass cs h.1)

pub number_decimal : (n : ℕ) → n < 2 ^ 64 → number_of (decimal n) ≡ Some n
unfolding number_of
number_decimal n small =
    let read = decimal_is_IsNumeral n small in
    let least : leb 1 (length (decimal n)) ≡ true = le-leb 1 (length (decimal n)) (omega (arith, decimal_nonempty n small)) in
    let most : leb (length (decimal n)) 20 ≡ true = le-leb (length (decimal n)) 20 (length-decimal-le 20 n (omega arith) (omega arith) small) in
    let digits : list_all (λ c. is_digit c 10) (decimal n) ≡ true = list_all-from_AllPass (λ c. is_digit c 10) (decimal n) (digits_pass (decimal n) read.0.1) in
    rw (least, most, digits, read.1) refl

unsigned : (ds : List ℕ) (n : ℕ) → 0 < length ds → (get_or ds 0 0 ≡ 45 → ⊥) → number_of ds ≡ Some n → signed_of ds ≡ Some (pos n)
unfolding signed_of
unsigned [] n some other says = absurd (omega arith)
unsigned (b ∷ ds) n some other says = rw (ne_eqb b 45 other, says) refl

pub signed_text : (z : ℤ) → IsSigned z → signed_of (signed_decimal z) ≡ Some z
unfolding signed_of
signed_text (pos n) small =
    let wide : n < 2 ^ 64 = omega arith in
    let some = decimal_nonempty n wide in
    let first = decimal_digits n wide 0 some in
    unsigned (decimal n) n some (λ e. omega (arith, first.0)) (number_decimal n wide)
signed_text (negsuc n) small =
    let says = number_decimal (suc n) (omega arith) in
    rw says refl

pub signed_word : (z : ℤ) → IsSigned z → IsWord (signed_decimal z)
signed_word (pos n) small = decimal_word n (omega arith)
signed_word (negsuc n) small =
    let w = decimal_word (suc n) (omega arith) in
    record { some = omega arith; solid = All-cons (λ b. is_solid b ≡ true) 45 (decimal (suc n)) refl w.solid }

pub fixnum_signed : (z : ℤ) → IsFixnum z → IsSigned z
fixnum_signed (pos n) h = omega arith
fixnum_signed (negsuc n) h = omega arith

-- ---- cells

no_zero : (n : ℕ) → n < 2 ^ 64 → (eqb (length (decimal n)) 1 || not (eqb (get_or (decimal n) 0 0) 48)) ≡ true
no_zero n small = elim (eq-zero-or-pos n) [
  | inl none ↦ rw (none, decimal_digit 0 (omega arith)) refl
  | inr some ↦
      let first = first_decimal n some small in
      let other : eqb (get_or (decimal n) 0 0) 48 ≡ false = ne_eqb (get_or (decimal n) 0 0) 48 (λ (e : get_or (decimal n) 0 0 ≡ 48). omega (arith, first)) in
      rw other (either (eqb (length (decimal n)) 1))
]
  where
    either : (b : Bool) → (b || true) ≡ true
    either true = refl
    either false = refl

cell_number_text : (limit n : ℕ) → n < limit → n < 2 ^ 64 → cell_number limit (decimal n) ≡ Some n
unfolding cell_number
cell_number_text limit n lt small = rw (number_decimal n small, lt-ltb n limit lt, no_zero n small) refl

kind_word : (kind n : ℕ) → is_solid kind ≡ true → n < 2 ^ 64 → IsWord (kind ∷ decimal n)
kind_word kind n solid small = record { some = omega arith; solid = All-cons (λ b. is_solid b ≡ true) kind (decimal n) solid (decimal_word n small).solid }

pub cell_said : (c : Cell) → IsCell c → cell_of (cell_text c) ≡ Some c
unfolding cell_of
cell_said (Stack i) h = rw (cell_number_text 16 i h (omega arith)) refl
cell_said (Exact i) h = rw (cell_number_text 16 i h (omega arith)) refl
cell_said (Shared i) h = rw (cell_number_text 16 i h (omega arith)) refl

pub cell_word : (c : Cell) → IsCell c → IsWord (cell_text c)
cell_word (Stack i) h = kind_word 115 i refl (omega arith)
cell_word (Exact i) h = kind_word 98 i refl (omega arith)
cell_word (Shared i) h = kind_word 103 i refl (omega arith)

-- the text of a raw cell
unfoldable pub raw_text : Raw → List ℕ
raw_text r = codes "r" ++ decimal r.0

pub raw_said : (r : Raw) → IsRaw r → raw_cell_of (raw_text r) ≡ Some r
unfolding raw_cell_of raw_text
raw_said r h = rw (cell_number_text 8 r.0 h (omega arith)) refl

pub raw_is_word : (r : Raw) → IsRaw r → IsWord (raw_text r)
unfolding raw_text
raw_is_word r h = kind_word 114 r.0 refl (omega arith)

-- ---- raw words

-- each digit has its value
abbrev are_digits : ℕ → Bool
are_digits zero = true
are_digits (suc d) = eqb (digit_value (hex_digit d)) d && are_digits d

digit_below : (m d : ℕ) → T (are_digits m) → d < m → digit_value (hex_digit d) ≡ d
digit_below zero d all lt = absurd (omega arith)
digit_below (suc m) d all lt =
    elim (eq-zero-or-pos (m - d)) [
      | inl none ↦ let e : d ≡ m = omega arith in rw e (eqb→eq _ _ (and_l _ (are_digits m) all))
      | inr some ↦ digit_below m d (and_r _ (are_digits m) all) (omega arith)
    ]

hex_value : (d : ℕ) → d < 16 → digit_value (hex_digit d) ≡ d
hex_value d lt = digit_below 16 d tt lt

value_after_push : (radix n : ℕ) (ds : List ℕ) (d : ℕ) → digits_value_after radix n (ds ++ d ∷ []) ≡ digits_value_after radix n ds * radix + digit_value d
value_after_push radix n [] d = refl
value_after_push radix n (c ∷ ds) d = value_after_push radix (n * radix + digit_value c) ds d

pub hex_said : (k w : ℕ) → w < 16 ^ k → digits_value 16 (hex_digits k w) ≡ w
unfolding hex_digits
hex_said zero w lt = omega arith
hex_said (suc k) w lt =
    let high : w / 16 < 16 ^ k = omega arith in
    value_after_push 16 0 (hex_digits k (w / 16)) (hex_digit (w % 16))
    ∙ ap (λ (x : ℕ). x * 16 + digit_value (hex_digit (w % 16))) (hex_said k (w / 16) high)
    ∙ (let d = hex_value (w % 16) (omega arith) in omega (arith, d))

hex_length : (k w : ℕ) → length (hex_digits k w) ≡ k
unfolding hex_digits
hex_length zero w = refl
hex_length (suc k) w = length-append (hex_digits k (w / 16)) (hex_digit (w % 16) ∷ []) ∙ (let h = hex_length k (w / 16) in omega (arith, h))

hex_pass : (k w : ℕ) → AllPass (λ c. is_digit c 16) (hex_digits k w)
unfolding hex_digits
hex_pass zero w = All-nil _
hex_pass (suc k) w =
    All-append (λ c. is_digit c 16 ≡ true) (hex_digits k (w / 16)) (hex_digit (w % 16) ∷ []) (hex_pass k (w / 16))
    (All-cons (λ c. is_digit c 16 ≡ true) (hex_digit (w % 16)) [] (lt-ltb (digit_value (hex_digit (w % 16))) 16 (let d = hex_value (w % 16) (omega arith) in omega (arith, d))) (All-nil _))

high_hex : (d : ℕ) → is_solid (hex_digit d) ≡ true
high_hex d = at (ltb d 10)
  where
    at : (b : Bool) → is_solid (cond b (48 + d) (87 + d)) ≡ true
    at true = lt-ltb 32 (48 + d) (omega arith)
    at false = lt-ltb 32 (87 + d) (omega arith)

hex_solid : (k w : ℕ) → AllPass is_solid (hex_digits k w)
unfolding hex_digits
hex_solid zero w = All-nil _
hex_solid (suc k) w =
    All-append (λ c. is_solid c ≡ true) (hex_digits k (w / 16)) (hex_digit (w % 16) ∷ []) (hex_solid k (w / 16))
    (All-cons (λ c. is_solid c ≡ true) (hex_digit (w % 16)) [] (high_hex (w % 16)) (All-nil _))

pub raw_word_said : (w : ℕ) → w < 2 ^ 64 → raw_word_of (word_text w) ≡ Some w
unfolding raw_word_of
raw_word_said w small =
    let digits : list_all (λ c. is_digit c 16) (hex_digits 16 w) ≡ true = list_all-from_AllPass (λ c. is_digit c 16) (hex_digits 16 w) (hex_pass 16 w) in
    rw (hex_length 16 w, digits, hex_said 16 w small) refl

pub raw_word_word : (w : ℕ) → IsWord (word_text w)
raw_word_word w = record {
  some = omega arith;
  solid = All-cons (λ b. is_solid b ≡ true) 48 (120 ∷ hex_digits 16 w) refl (All-cons (λ b. is_solid b ≡ true) 120 (hex_digits 16 w) refl (hex_solid 16 w));
}

-- ---- weaknesses

pub weakness_said : (k : Weakness) → weakness_named (weakness_text k) ≡ Some k
unfolding weakness_named
weakness_said weaknesses.Strong = refl
weakness_said weaknesses.Key = refl
weakness_said weaknesses.Value = refl
weakness_said weaknesses.KeyAndValue = refl
weakness_said weaknesses.KeyOrValue = refl

pub weakness_word : (k : Weakness) → IsWord (weakness_text k)
weakness_word weaknesses.Strong = written _ (omega arith) refl
weakness_word weaknesses.Key = written _ (omega arith) refl
weakness_word weaknesses.Value = written _ (omega arith) refl
weakness_word weaknesses.KeyAndValue = written _ (omega arith) refl
weakness_word weaknesses.KeyOrValue = written _ (omega arith) refl
