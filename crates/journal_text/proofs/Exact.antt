-- Each reader of a field is the inverse of the text beside it.
use Rattle.std.proofs.Common.{◌≡◌, ℕ, ℤ, pos, negsuc, suc, ◌^◌, ◌<◌, ◌≤◌, true, false, eqb, List, [], ◌∷◌, length, get_or, Option, Some, option_map, refl, ap, sym, ◌∙◌, subst, arith, inl, inr}
use Rattle.std.specs.Fmt.{decimal, signed_decimal}
use Rattle.std.proofs.lemmas.Bool.{cases_Bool, eqb-true, ne_eqb, eq-eqb}
use Rattle.heap_terms.specs.declared.cells.Cell.{Cell}
use Rattle.heap_terms.specs.declared.cells.Cell.TheVariants as cells
use Rattle.heap_terms.specs.declared.cells.Raw.{Raw}
use Rattle.heap_terms.specs.declared.cells.Value.{Value}
use Rattle.heap_terms.specs.declared.cells.Value.TheVariants as values
use Rattle.heap_terms.specs.Text.{cell_text, name_text, index_text, value_text, word_text, type_text, weakness_text}
use Rattle.heap_terms.specs.Valid.{IsCell, IsRaw, IsFixnum, IsSigned}
use Rattle.journal_text.specs.FieldReading.{a_number, a_cell, a_raw, raw, behind, a_name, an_index, a_generation, a_fixnum, a_value}
use Rattle.journal_text.specs.LineReading.{a_count, a_long, an_element, a_capacity, a_number_32, a_collected, a_generation_number}
use Rattle.journal_text.specs.Ranges.{IsName, IsIndex, IsValue}
use Rattle.journal_text.specs.FieldReading.{a_weakness, a_type, a_word}
use Rattle.journal_text.proofs.Words.{weakness_again, type_again}
use Rattle.journal_text.proofs.WordsFound.{weakness_found, type_found}
use Rattle.journal_text.proofs.Binding.{map_some}
use Rattle.std.specs.List.{list_all}
use Rattle.std.specs.Prelude.{codes}
use Rattle.std.specs.Str.{bytes_eq}
use Rattle.std.proofs.lemmas.Option.{same_Some}
use Rattle.std.proofs.lemmas.Slice.Eq.{bytes_eq-Decides}
use Rattle.journal_text.specs.FieldReading.{is_decimal}
use Rattle.journal_text.proofs.Numerals.{decimal_some, decimal_digits, decimal_byte}
use Rattle.journal_text.proofs.HexDigits.{word_sound, word_complete}
use Rattle.journal_text.proofs.Numerals.{number_sound, number_complete, count_sound, count_complete, signed_sound, signed_complete, IsWithin}

pub record IsExact {A : Type 0} (reads : List ℕ → Option A) (text : A → List ℕ) (ok : A → Type 0) : Type 0 where
  pub sound : (f : List ℕ) (x : A) → reads f ≡ Some x → (f ≡ text x) × ok x
  pub again : (x : A) → ok x → reads (text x) ≡ Some x

-- ---- numbers

pub number_exact : (most : ℕ) → most < 2 ^ 64 → IsExact (a_number most) decimal (λ n. n ≤ most)
number_exact most small = record { sound = λ f x e. number_sound most f x e; again = λ x ok. number_complete most x small ok }

abbrev pub IsCount : ℕ → ℕ → Type 0
IsCount most n = (1 ≤ n) × (n ≤ most)

pub count_exact : (most : ℕ) → most < 2 ^ 64 → IsExact (a_count most) decimal (IsCount most)
count_exact most small = record { sound = λ f x e. let s = count_sound most f x e in (s.0, (s.1, s.2)); again = λ x ok. count_complete most x small ok.0 ok.1 }

pub fixnum_exact : IsExact a_fixnum signed_decimal IsFixnum
unfolding a_fixnum
fixnum_exact = record {
  sound = λ f x e. let s = signed_sound (2 ^ 62) f x (omega arith) e in (s.0, there x s.1);
  again = λ x ok. signed_complete (2 ^ 62) x (omega arith) (back x ok);
}
  where
    there : (z : ℤ) → IsWithin (2 ^ 62) z → IsFixnum z
    there (pos n) h = h
    there (negsuc n) h = h

    back : (z : ℤ) → IsFixnum z → IsWithin (2 ^ 62) z
    back (pos n) h = h
    back (negsuc n) h = h

pub long_exact : IsExact a_long signed_decimal IsSigned
long_exact = record {
  sound = λ f x e. let s = signed_sound (2 ^ 63) f x (omega arith) e in (s.0, there x s.1);
  again = λ x ok. signed_complete (2 ^ 63) x (omega arith) (back x ok);
}
  where
    there : (z : ℤ) → IsWithin (2 ^ 63) z → IsSigned z
    there (pos n) h = h
    there (negsuc n) h = h

    back : (z : ℤ) → IsSigned z → IsWithin (2 ^ 63) z
    back (pos n) h = h
    back (negsuc n) h = h

-- ---- what stands behind a letter

abbrev pub lettered : ℕ → ℕ → List ℕ
lettered letter n = letter ∷ decimal n

behind_sound : (letter most : ℕ) (f : List ℕ) (n : ℕ) → behind letter (a_number most) f ≡ Some n → (f ≡ lettered letter n) × (n ≤ most)
behind_sound letter most [] n e = absurd cc
behind_sound letter most (b ∷ digits) n e = elim (cases_Bool (eqb b letter)) [
  | inl same ↦ let s = number_sound most digits n (rw same at e) in let is = eqb-true b letter same in ((λ i. is i ∷ s.0 i), s.1)
  | inr other ↦ absurd (let k = rw other at e in cc)
]

behind_again : (letter most n : ℕ) → most < 2 ^ 64 → n ≤ most → behind letter (a_number most) (lettered letter n) ≡ Some n
behind_again letter most n small ok = let k = number_complete most n small ok in let e : eqb letter letter ≡ true = eq-eqb letter letter refl in rw e k

pub name_exact : IsExact a_name name_text IsName
unfolding a_name
name_exact = record {
  sound = λ f x e. let s = behind_sound 35 19999 f x e in (s.0, omega (arith, s.1));
  again = λ x ok. number_complete 19999 x (omega arith) (omega (arith, ok));
}

pub index_exact : IsExact an_index index_text IsIndex
unfolding an_index
index_exact = record {
  sound = λ f x e. let s = behind_sound 64 524287 f x e in (s.0, omega (arith, s.1));
  again = λ x ok. number_complete 524287 x (omega arith) (omega (arith, ok));
}

pub generation_exact : IsExact a_generation (lettered 103) (λ g. g ≤ 5)
unfolding a_generation
generation_exact = record {
  sound = λ f x e. behind_sound 103 5 f x e;
  again = λ x ok. number_complete 5 x (omega arith) ok;
}

pub raw_exact : IsExact a_raw (λ r. lettered 114 r.0) IsRaw
unfolding a_raw
raw_exact = record {
  sound = λ f x e. let m = map_some raw (behind 114 (a_number 7) f) x e in let s = behind_sound 114 7 f m.0 m.1 in
      subst (λ (r : Raw). (f ≡ lettered 114 r.0) × IsRaw r) m.2 (s.0, omega (arith, s.1));
  again = λ x ok. let k : a_number 7 (decimal x.0) ≡ Some x.0 = number_complete 7 x.0 (omega arith) (omega (arith, ok)) in rw k refl;
}

pub cell_exact : IsExact a_cell cell_text IsCell
unfolding a_cell
cell_exact = record { sound = sound; again = again }
  where
    found : (b : ℕ) (digits : List ℕ) (make : ℕ → Cell) (letter : ℕ) (x : Cell) → b ≡ letter → ((n : ℕ) → n ≤ 15 → (lettered letter n ≡ cell_text (make n)) × IsCell (make n)) →
        option_map make (a_number 15 digits) ≡ Some x → (b ∷ digits ≡ cell_text x) × IsCell x
    found b digits make letter x same good e =
        let m = map_some make (a_number 15 digits) x e in
        let s = number_sound 15 digits m.0 m.1 in
        let g = good m.0 s.1 in
        subst (λ (y : Cell). (b ∷ digits ≡ cell_text y) × IsCell y) m.2 ((λ i. same i ∷ s.0 i) ∙ g.0, g.1)

    sound : (f : List ℕ) (x : Cell) → a_cell f ≡ Some x → (f ≡ cell_text x) × IsCell x
    sound [] x e = absurd cc
    sound (b ∷ digits) x e = elim (cases_Bool (eqb b 115)) [
      | inl s ↦ found b digits cells.Stack 115 x (eqb-true b 115 s) (λ n h. (refl, omega arith)) (rw s at e)
      | inr not_s ↦ elim (cases_Bool (eqb b 98)) [
        | inl at_b ↦ found b digits cells.Exact 98 x (eqb-true b 98 at_b) (λ n h. (refl, omega arith)) (rw (not_s, at_b) at e)
        | inr not_b ↦ elim (cases_Bool (eqb b 103)) [
          | inl at_g ↦ found b digits cells.Shared 103 x (eqb-true b 103 at_g) (λ n h. (refl, omega arith)) (rw (not_s, not_b, at_g) at e)
          | inr not_g ↦ absurd (let k = rw (not_s, not_b, not_g) at e in cc)
        ]
      ]
    ]

    again : (x : Cell) → IsCell x → a_cell (cell_text x) ≡ Some x
    again (cells.Stack n) ok = let k : a_number 15 (decimal n) ≡ Some n = number_complete 15 n (omega arith) (omega (arith, ok)) in rw k refl
    again (cells.Exact n) ok = let k : a_number 15 (decimal n) ≡ Some n = number_complete 15 n (omega arith) (omega (arith, ok)) in rw k refl
    again (cells.Shared n) ok = let k : a_number 15 (decimal n) ≡ Some n = number_complete 15 n (omega arith) (omega (arith, ok)) in rw k refl

-- ---- words

pub weakness_exact : IsExact a_weakness weakness_text (λ w. Unit {0})
weakness_exact = record { sound = λ f x e. (weakness_found f x e, tt); again = λ x ok. weakness_again x }

pub type_exact : IsExact a_type type_text (λ ty. Unit {0})
type_exact = record { sound = λ f x e. (type_found f x e, tt); again = λ x ok. type_again x }

-- ---- the fields of commands

pub element_exact : IsExact an_element decimal (λ n. n ≤ 65535)
element_exact = number_exact 65535 (omega arith)

pub capacity_exact : IsExact a_capacity decimal (IsCount 64)
capacity_exact = count_exact 64 (omega arith)

pub number_32_exact : IsExact a_number_32 decimal (λ n. n ≤ 4294967295)
number_32_exact = number_exact 4294967295 (omega arith)

pub collected_exact : IsExact a_collected decimal (λ n. n ≤ 5)
collected_exact = number_exact 5 (omega arith)

pub generation_number_exact : IsExact a_generation_number decimal (λ n. n ≤ 6)
generation_number_exact = number_exact 6 (omega arith)

-- ---- raw words

pub word_exact : IsExact a_word word_text (λ w. w < 2 ^ 64)
word_exact = record { sound = λ f x e. word_sound f x e; again = λ x ok. word_complete x ok }

-- ---- values

-- a signed number begins with a `-` or a digit
pub record Fronted (text : List ℕ) : Type 0 where
  pub head : ℕ
  pub tail : List ℕ
  pub is : text ≡ head ∷ tail
  pub low : 45 ≤ head
  pub high : head ≤ 57
  pub plain : get_or text 1 0 ≡ 120 → ⊥

pub decimal_front : (n : ℕ) → n < 2 ^ 64 → Fronted (decimal n)
decimal_front n small = at (decimal n) (decimal_some n small) (decimal_digits n small)
  where
    at : (xs : List ℕ) → 0 < length xs → list_all is_decimal xs ≡ true → Fronted xs
    at [] some all = absurd (omega arith)
    at (b ∷ []) some all = let k = decimal_byte (b ∷ []) all 0 (omega arith) in record { head = b; tail = []; is = refl; low = omega (arith, k.0); high = k.1; plain = λ e. omega arith }
    at (b ∷ d ∷ xs) some all =
        let k = decimal_byte (b ∷ d ∷ xs) all 0 (omega arith) in
        let l = decimal_byte (b ∷ d ∷ xs) all 1 (omega arith) in
        record { head = b; tail = d ∷ xs; is = refl; low = omega (arith, k.0); high = k.1; plain = λ e. omega (arith, l.1, e) }

pub signed_front : (z : ℤ) → IsFixnum z → Fronted (signed_decimal z)
signed_front (pos n) ok = decimal_front n (omega arith)
signed_front (negsuc n) ok =
    let f = decimal_front (suc n) (omega arith) in
    record { head = 45; tail = decimal (suc n); is = refl; low = omega arith; high = omega arith; plain = λ e. omega (arith, f.low, f.high, ap (λ (xs : List ℕ). get_or xs 0 0) f.is, e) }

pub value_exact : IsExact a_value value_text IsValue
unfolding a_value
value_exact = record { sound = sound; again = again }
  where
    sound : (f : List ℕ) (x : Value) → a_value f ≡ Some x → (f ≡ value_text x) × IsValue x
    sound [] x e = absurd cc
    sound (b ∷ rest) x e = elim (cases_Bool (eqb b 35)) [
      | inl hash ↦
          let m = map_some values.Ref (a_number 19999 rest) x (rw hash at e) in
          let s = number_sound 19999 rest m.0 m.1 in
          let is = eqb-true b 35 hash in
          subst (λ (y : Value). (b ∷ rest ≡ value_text y) × IsValue y) m.2 ((λ i. is i ∷ s.0 i), omega (arith, s.1))
      | inr other ↦ elim (cases_Bool (bytes_eq (b ∷ rest) (codes "nil"))) [
        | inl nil ↦
            let is : b ∷ rest ≡ codes "nil" = (bytes_eq-Decides (b ∷ rest) (codes "nil")).0 nil in
            let k : Some values.Nil ≡ Some x = rw (other, nil) at e in
            subst (λ (y : Value). (b ∷ rest ≡ value_text y) × IsValue y) (same_Some values.Nil x k) (is, tt)
        | inr number ↦
            let m = map_some values.Fix (a_fixnum (b ∷ rest)) x (rw (other, number) at e) in
            let s = fixnum_exact.sound (b ∷ rest) m.0 m.1 in
            subst (λ (y : Value). (b ∷ rest ≡ value_text y) × IsValue y) m.2 s
      ]
    ]

    number_again : (xs : List ℕ) (b : ℕ) (rest : List ℕ) (z : ℤ) → xs ≡ b ∷ rest → 45 ≤ b → b ≤ 57 → a_fixnum xs ≡ Some z → a_value xs ≡ Some (values.Fix z)
    number_again xs b rest z e low high told =
        let no_hash : eqb b 35 ≡ false = ne_eqb b 35 (λ h. omega arith) in
        let no_n : eqb b 110 ≡ false = ne_eqb b 110 (λ h. omega arith) in
        let k : a_fixnum (b ∷ rest) ≡ Some z = ap a_fixnum (sym e) ∙ told in
        ap a_value e ∙ rw (no_hash, no_n, k) refl

    again : (x : Value) → IsValue x → a_value (value_text x) ≡ Some x
    again (values.Fix z) ok = let f = signed_front z ok in number_again (signed_decimal z) f.head f.tail z f.is f.low f.high (fixnum_exact.again z ok)
    again values.Nil ok = refl
    again values.Unbound ok = absurd ok
    again (values.Ref n) ok = let k : a_number 19999 (decimal n) ≡ Some n = number_complete 19999 n (omega arith) (omega (arith, ok)) in rw k refl
