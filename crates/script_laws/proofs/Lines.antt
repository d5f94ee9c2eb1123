-- The lines of a text, and the fields of a line.
use Rattle.std.proofs.Common.{◌≡◌, ℕ, ◌<◌, ◌-◌, Bool, true, false, eqb, ltb, List, [], ◌∷◌, ◌++◌, length, get_or, refl, ap, ◌∙◌, inl, inr, arith, append_assoc, append-nil}
use Rattle.std.specs.Prelude.{flat_map}
use Rattle.std.specs.List.{slice_split, list_all, All, AllPass}
use Rattle.std.specs.Str.Lines.{lines, lines_of_parts, strip_carriage_return}
use Rattle.std.proofs.lemmas.Bool.{cases_Bool, ltb-true, ne_eqb}
use Rattle.std.proofs.lemmas.List.Elements.{All-cons, All-append, All-head, All-tail, All-weaker, All-get_or}
use Rattle.std.proofs.lemmas.List.Splits.{slice_split_none, slice_split_at}
use Rattle.std.proofs.lemmas.List.Sums.{AllPass-from_list_all}
use Rattle.heap_terms.specs.Fields.{is_blank, has_bytes, fields_in}
use Rattle.heap_terms.specs.Text.{field, line}

-- a byte above 32 is no blank and ends no line
abbrev pub is_solid : ℕ → Bool
is_solid b = ltb 32 b

-- a byte above 13 ends no line, and is not dropped before its end
abbrev pub is_plain : ℕ → Bool
is_plain b = ltb 13 b

-- a word: one byte or more, all solid
pub record IsWord (word : List ℕ) : Type 0 where
  pub some : 0 < length word
  pub solid : AllPass is_solid word

-- a word that is written out
pub written : (word : List ℕ) → 0 < length word → list_all is_solid word ≡ true → IsWord word
written word some h = record { some = some; solid = AllPass-from_list_all is_solid word h }

-- ---- lines

abbrev is_lf : ℕ → Bool
is_lf b = eqb b 10

-- a list is cut into one part at least
some_part : (p : ℕ → Bool) (xs : List ℕ) → (y : List ℕ) × (ys : List (List ℕ)) × (slice_split p xs ≡ y ∷ ys)
some_part p [] = ([], [], refl)
some_part p (x ∷ xs) = elim (cases_Bool (p x)) [
  | inl at_x ↦ ([], slice_split p xs, rw at_x refl)
  | inr other ↦ let more = some_part p xs in (x ∷ more.0, more.1, rw (other, more.2) refl)
]

not_lf : (text : List ℕ) → AllPass is_plain text → All (λ b. is_lf b ≡ false) text
not_lf text h = All-weaker (λ b. is_plain b ≡ true) (λ b. is_lf b ≡ false) (λ b g. let low : 13 < b = ltb-true 13 b g in ne_eqb b 10 (λ (e : b ≡ 10). omega arith)) text h

no_return : (text : List ℕ) → AllPass is_plain text → strip_carriage_return text ≡ text
no_return [] h = refl
no_return (b ∷ text) h =
    let at = length (b ∷ text) - 1 in
    let below : at < length (b ∷ text) = omega arith in
    let low : 13 < get_or (b ∷ text) at 0 = ltb-true 13 (get_or (b ∷ text) at 0) (All-get_or (λ c. is_plain c ≡ true) (b ∷ text) at 0 below h) in
    let other : eqb (get_or (b ∷ text) at 0) 13 ≡ false = ne_eqb (get_or (b ∷ text) at 0) 13 (λ (e : get_or (b ∷ text) at 0 ≡ 13). omega arith) in
    rw other refl

-- a line of plain bytes, and what follows it
pub lines_first : (text rest : List ℕ) → AllPass is_plain text → lines (text ++ 10 ∷ rest) ≡ text ∷ lines rest
lines_first text rest h =
    let more = some_part is_lf rest in
    ap lines_of_parts (slice_split_at is_lf text 10 rest (not_lf text h) refl)
    ∙ rw more.2 (ap (λ (first : List ℕ). first ∷ lines_of_parts (more.0 ∷ more.1)) (no_return text h))

-- ---- fields

not_blank : (word : List ℕ) → AllPass is_solid word → All (λ b. is_blank b ≡ false) word
not_blank word h = All-weaker (λ b. is_solid b ≡ true) (λ b. is_blank b ≡ false) (λ b g. solid b (ltb-true 32 b g)) word h
  where
    solid : (b : ℕ) → 32 < b → is_blank b ≡ false
    solid b low =
        let space : eqb b 32 ≡ false = ne_eqb b 32 (λ (e : b ≡ 32). omega arith) in
        let tab : eqb b 9 ≡ false = ne_eqb b 9 (λ (e : b ≡ 9). omega arith) in
        rw (space, tab) refl

word_has_bytes : (word : List ℕ) → IsWord word → has_bytes word ≡ true
word_has_bytes [] h = absurd (omega (arith, h.some))
word_has_bytes (b ∷ word) h = refl

one_field : (word : List ℕ) → IsWord word → fields_in word ≡ word ∷ []
unfolding fields_in
one_field word h = rw (slice_split_none is_blank word (not_blank word h.solid), word_has_bytes word h) refl

first_field : (word rest : List ℕ) → IsWord word → fields_in (word ++ 32 ∷ rest) ≡ word ∷ fields_in rest
unfolding fields_in
first_field word rest h = rw (slice_split_at is_blank word 32 rest (not_blank word h.solid) refl, word_has_bytes word h) refl

-- a word and fields behind it, each after one space
unfoldable pub spaced : List ℕ → List (List ℕ) → List ℕ
spaced word fields = word ++ flat_map field fields

pub fields_spaced : (word : List ℕ) (fields : List (List ℕ)) → IsWord word → All IsWord fields → fields_in (spaced word fields) ≡ word ∷ fields
unfolding spaced
fields_spaced word [] h all = rw (append-nil word) (one_field word h)
fields_spaced word (f ∷ fields) h all =
    first_field word (f ++ flat_map field fields) h
    ∙ ap (λ (more : List (List ℕ)). word ∷ more) (fields_spaced f fields (All-head IsWord f fields all) (All-tail IsWord f fields all))

word_plain : (word : List ℕ) → IsWord word → AllPass is_plain word
word_plain word h = All-weaker (λ b. is_solid b ≡ true) (λ b. is_plain b ≡ true) (λ b g. let low : 32 < b = ltb-true 32 b g in grind arith) word h.solid

pub plain_spaced : (word : List ℕ) (fields : List (List ℕ)) → IsWord word → All IsWord fields → AllPass is_plain (spaced word fields)
unfolding spaced
plain_spaced word [] h all = rw (append-nil word) (word_plain word h)
plain_spaced word (f ∷ fields) h all =
    All-append (λ b. is_plain b ≡ true) word (32 ∷ f ++ flat_map field fields) (word_plain word h)
    (All-cons (λ b. is_plain b ≡ true) 32 (f ++ flat_map field fields) refl (plain_spaced f fields (All-head IsWord f fields all) (All-tail IsWord f fields all)))

-- the text of such a line, and what follows it
pub lines_spaced : (word : List ℕ) (fields : List (List ℕ)) (rest : List ℕ) → IsWord word → All IsWord fields → lines (line (spaced word fields) ++ rest) ≡ spaced word fields ∷ lines rest
lines_spaced word fields rest h all =
    ap lines (append_assoc (spaced word fields) (10 ∷ []) rest) ∙ lines_first (spaced word fields) rest (plain_spaced word fields h all)
