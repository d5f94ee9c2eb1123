-- Lines and fields, byte by byte.
use Rattle.std.proofs.Common.{◌≡◌, ℕ, ◌+◌, ◌-◌, ◌<◌, ◌≤◌, Bool, true, false, eqb, not, ◌&&◌, ◌||◌, List, [], ◌∷◌, ◌++◌, length, take, drop, get_or, refl, sym, ap, ◌∙◌, inl, inr, ◌⊎◌, arith, zero, suc, add-one, drop-cons}
use Rattle.std.proofs.Math.ListN.{drop_of_length-le}
use Rattle.std.specs.List.{slice_split, onto_first, list_all}
use Rattle.std.specs.Str.Lines.{lines, lines_of_parts, strip_carriage_return}
use Rattle.std.proofs.lemmas.Bool.{cases_Bool, or_parts, or_cases, and_cases, and_parts, not-true, eqb-true, ne_eqb, false≢true}
use Rattle.heap_terms.specs.Fields.{is_blank, fields_in}
use Rattle.script_text.specs.Left.{first_or_empty, all_but_first, fields_left, lines_after, SameLeft, Taken, NoneLeft, starts_with_lf, ends_field, field_len, starts_with_blank}

abbrev is_lf : ℕ → Bool
is_lf b = eqb b 10

-- a list is cut into one part at least
some_part : (p : ℕ → Bool) (xs : List ℕ) → (y : List ℕ) × (ys : List (List ℕ)) × (slice_split p xs ≡ y ∷ ys)
some_part p [] = ([], [], refl)
some_part p (x ∷ xs) = elim (cases_Bool (p x)) [
  | inl at_x ↦ ([], slice_split p xs, rw at_x refl)
  | inr other ↦ let more = some_part p xs in (x ∷ more.0, more.1, rw (other, more.2) refl)
]

-- an empty line
pub lines-lf : (bytes : List ℕ) → lines (10 ∷ bytes) ≡ [] ∷ lines bytes
lines-lf bytes = let more = some_part is_lf bytes in rw more.2 refl

pub lines-cr_lf : (bytes : List ℕ) → lines (13 ∷ 10 ∷ bytes) ≡ [] ∷ lines bytes
lines-cr_lf bytes = let more = some_part is_lf bytes in rw more.2 refl

-- any other byte belongs to the first line
strip-cons : (b c : ℕ) (x : List ℕ) → strip_carriage_return (b ∷ c ∷ x) ≡ b ∷ strip_carriage_return (c ∷ x)
strip-cons b c x =
    let one : length (b ∷ c ∷ x) - 1 ≡ suc (length x) = omega arith in
    let two : length (c ∷ x) - 1 ≡ length x = omega arith in
    rw (one, two) (elim (cases_Bool (eqb (get_or (c ∷ x) (length x) 0) 13)) [
      | inl at_return ↦ rw at_return refl
      | inr other ↦ rw other refl
    ])

-- the first part and the next, where the byte before them does not end a line
join-parts : (b : ℕ) (x : List ℕ) (y : List ℕ) (more : List (List ℕ)) → (x ≡ [] → eqb b 13 ≡ false) → lines_of_parts ((b ∷ x) ∷ y ∷ more) ≡ onto_first b (lines_of_parts (x ∷ y ∷ more))
join-parts b [] y more other = let e = other refl in rw e refl
join-parts b (c ∷ x) y more other = ap (λ (line : List ℕ). line ∷ lines_of_parts (y ∷ more)) (strip-cons b c x)

last-part : (b : ℕ) (x : List ℕ) → lines_of_parts ((b ∷ x) ∷ []) ≡ onto_first b (lines_of_parts (x ∷ []))
last-part b [] = refl
last-part b (c ∷ x) =
    let one : eqb (suc (length x)) 0 ≡ false = ne_eqb (suc (length x)) 0 (λ (e : suc (length x) ≡ 0). omega arith) in
    let two : eqb (suc (suc (length x))) 0 ≡ false = ne_eqb (suc (suc (length x))) 0 (λ (e : suc (suc (length x)) ≡ 0). omega arith) in
    rw (one, two) refl

all-parts : (b : ℕ) (x : List ℕ) (parts : List (List ℕ)) → (x ≡ [] → eqb b 13 ≡ false) → lines_of_parts ((b ∷ x) ∷ parts) ≡ onto_first b (lines_of_parts (x ∷ parts))
all-parts b x [] other = last-part b x
all-parts b x (y ∷ more) other = join-parts b x y more other

-- where the first part is empty and the bytes are not, they begin with an LF
first-empty : (b : ℕ) (bytes : List ℕ) (y : List (List ℕ)) → slice_split is_lf (b ∷ bytes) ≡ [] ∷ y → eqb b 10 ≡ true
first-empty b bytes y e = elim (cases_Bool (is_lf b)) [
  | inl at_lf ↦ at_lf
  | inr other ↦ let more = some_part is_lf bytes in let f = rw (other, more.2) at e in absurd cc
]

pub lines-byte : (b : ℕ) (bytes : List ℕ) → eqb b 10 ≡ false → (eqb b 13 && starts_with_lf bytes) ≡ false → lines (b ∷ bytes) ≡ onto_first b (lines bytes)
lines-byte b [] no_lf no_cr_lf = rw no_lf refl
lines-byte b (c ∷ bytes) no_lf no_cr_lf =
    let more = some_part is_lf (c ∷ bytes) in
    let no_return : more.0 ≡ [] → eqb b 13 ≡ false = λ empty.
    let at_lf : eqb c 10 ≡ true = first-empty c bytes more.1 (more.2 ∙ ap (λ (y : List ℕ). y ∷ more.1) empty) in
    elim (and_cases (eqb b 13) (eqb c 10) no_cr_lf) [ inl other ↦ other | inr not_lf ↦ absurd (false≢true (sym not_lf ∙ at_lf)) ] in
    let whole : slice_split is_lf (b ∷ c ∷ bytes) ≡ onto_first b (slice_split is_lf (c ∷ bytes)) = rw no_lf refl in
    let parts : onto_first b (slice_split is_lf (c ∷ bytes)) ≡ (b ∷ more.0) ∷ more.1 = ap (λ (ps : List (List ℕ)). onto_first b ps) more.2 in
    ap lines_of_parts (whole ∙ parts) ∙ all-parts b more.0 more.1 no_return ∙ ap (λ (ps : List (List ℕ)). onto_first b (lines_of_parts ps)) (sym more.2)

first-onto : (b : ℕ) (ls : List (List ℕ)) → first_or_empty (onto_first b ls) ≡ b ∷ first_or_empty ls
first-onto b [] = refl
first-onto b (l ∷ ls) = refl

rest-onto : (b : ℕ) (ls : List (List ℕ)) → all_but_first (onto_first b ls) ≡ all_but_first ls
rest-onto b [] = refl
rest-onto b (l ∷ ls) = refl

onto_some : (b : ℕ) (ls : List (List ℕ)) → (line : List ℕ) × (more : List (List ℕ)) × (onto_first b ls ≡ line ∷ more)
onto_some b [] = (b ∷ [], [], refl)
onto_some b (l ∷ ls) = (b ∷ l, ls, refl)

length-onto : (b : ℕ) (ls : List (List ℕ)) → length (onto_first b ls) ≤ length ls + 1
length-onto b [] = omega arith
length-onto b (l ∷ ls) = omega arith

-- a byte that does not end a line
first-byte : (b : ℕ) (bytes : List ℕ) → eqb b 10 ≡ false → (eqb b 13 && starts_with_lf bytes) ≡ false → first_or_empty (lines (b ∷ bytes)) ≡ b ∷ first_or_empty (lines bytes)
first-byte b bytes no_lf no_cr_lf = ap first_or_empty (lines-byte b bytes no_lf no_cr_lf) ∙ first-onto b (lines bytes)

rest-byte : (b : ℕ) (bytes : List ℕ) → eqb b 10 ≡ false → (eqb b 13 && starts_with_lf bytes) ≡ false → lines_after (b ∷ bytes) ≡ lines_after bytes
unfolding lines_after
rest-byte b bytes no_lf no_cr_lf = ap all_but_first (lines-byte b bytes no_lf no_cr_lf) ∙ rest-onto b (lines bytes)

blank-is : (b : ℕ) → is_blank b ≡ true → (b ≡ 32) ⊎ (b ≡ 9)
blank-is b h = elim (or_cases (eqb b 32) (eqb b 9) h) [ inl space ↦ inl (eqb-true b 32 space) | inr tab ↦ inr (eqb-true b 9 tab) ]

first-blank : (b : ℕ) (bytes : List ℕ) → is_blank b ≡ true → first_or_empty (lines (b ∷ bytes)) ≡ b ∷ first_or_empty (lines bytes)
first-blank b bytes h = elim (blank-is b h) [
  | inl space ↦ rw space (first-byte 32 bytes refl refl)
  | inr tab ↦ rw tab (first-byte 9 bytes refl refl)
]

-- a blank is no part of a field
pub SameLeft-blank : (b : ℕ) (bytes : List ℕ) → is_blank b ≡ true → SameLeft (b ∷ bytes) bytes
unfolding fields_left fields_in
SameLeft-blank b bytes h = record {
  fields = rw (first-blank b bytes h, h) refl;
  lines = elim (blank-is b h) [
    | inl space ↦ rw space (sym (rest-byte 32 bytes refl refl))
    | inr tab ↦ rw tab (sym (rest-byte 9 bytes refl refl))
  ];
}

pub SameLeft-then : (a b c : List ℕ) → SameLeft a b → SameLeft b c → SameLeft a c
SameLeft-then a b c p q = record { fields = q.fields ∙ p.fields; lines = q.lines ∙ p.lines }

-- ---- where a field ends

-- the first line of bytes before which a field ends is empty, or begins with a blank
data StartsApart : List ℕ → Type 0 where
  Empty : StartsApart []
  Blank : (b : ℕ) (line : List ℕ) → is_blank b ≡ true → StartsApart (b ∷ line)

lf_starts : (bytes : List ℕ) → starts_with_lf bytes ≡ true → (rest : List ℕ) × (bytes ≡ 10 ∷ rest)
lf_starts [] h = absurd (false≢true h)
lf_starts (b ∷ bytes) h = (bytes, ap (λ (x : ℕ). x ∷ bytes) (eqb-true b 10 h))

starts_apart : (bytes : List ℕ) → ends_field bytes ≡ true → StartsApart (first_or_empty (lines bytes))
starts_apart [] h = Empty
starts_apart (b ∷ bytes) h =
    elim (or_cases (is_blank b || eqb b 10) (eqb b 13 && starts_with_lf bytes) h) [
      | inl first ↦ elim (or_cases (is_blank b) (eqb b 10) first) [
        | inl blank ↦ rw (first-blank b bytes blank) (Blank b (first_or_empty (lines bytes)) blank)
        | inr at_lf ↦ rw (eqb-true b 10 at_lf, lines-lf bytes) Empty
      ]
      | inr return ↦
          let both = and_parts (eqb b 13) (starts_with_lf bytes) return in
          let rest = lf_starts bytes both.1 in
          rw (eqb-true b 13 both.0, rest.1, lines-cr_lf rest.0) Empty
    ]

-- no field is left where the first line is empty
none_in_empty : (bytes : List ℕ) → first_or_empty (lines bytes) ≡ [] → fields_left bytes ≡ []
unfolding fields_left fields_in
none_in_empty bytes e = rw e refl

-- ---- a field

-- the first part of a line whose front has no blank
split-front : (front line : List ℕ) (parts : List (List ℕ)) → list_all (λ b. not (is_blank b)) front ≡ true → slice_split is_blank line ≡ [] ∷ parts → slice_split is_blank (front ++ line) ≡ front ∷ parts
split-front [] line parts h e = e
split-front (b ∷ front) line parts h e =
    let both = and_parts (not (is_blank b)) (list_all (λ x. not (is_blank x)) front) h in
    rw (not-true (is_blank b) both.0, split-front front line parts both.1 e) refl

split_apart : (line : List ℕ) → StartsApart line → (parts : List (List ℕ)) × (slice_split is_blank line ≡ [] ∷ parts)
split_apart _ Empty = ([], refl)
split_apart _ (Blank b line h) = (slice_split is_blank line, rw h refl)

fields-front : (b : ℕ) (front line : List ℕ) → list_all (λ x. not (is_blank x)) (b ∷ front) ≡ true → StartsApart line → fields_in ((b ∷ front) ++ line) ≡ (b ∷ front) ∷ fields_in line
unfolding fields_in
fields-front b front line h apart =
    let p = split_apart line apart in
    rw (split-front (b ∷ front) line p.0 h p.1, p.1) refl

-- what stands before the place where a field ends, and what from there on
abbrev front_of : List ℕ → List ℕ
front_of bytes = take (field_len bytes) bytes

abbrev after_of : List ℕ → List ℕ
after_of bytes = drop (field_len bytes) bytes

pub field_len-none : (bytes : List ℕ) → ends_field bytes ≡ true → field_len bytes ≡ 0
unfolding field_len
field_len-none [] h = refl
field_len-none (b ∷ bytes) h = rw h refl

pub field_len-cons : (b : ℕ) (bytes : List ℕ) → ends_field (b ∷ bytes) ≡ false → field_len (b ∷ bytes) ≡ suc (field_len bytes)
unfolding field_len
field_len-cons b bytes h = rw h refl

pub field_len-le : (bytes : List ℕ) → field_len bytes ≤ length bytes
field_len-le [] = omega (arith, field_len-none [] refl)
field_len-le (b ∷ bytes) = elim (cases_Bool (ends_field (b ∷ bytes))) [
  | inl at_end ↦ omega (arith, field_len-none (b ∷ bytes) at_end)
  | inr inside ↦ omega (arith, field_len-cons b bytes inside, field_len-le bytes)
]

-- the first line is what stands before, and the first line of the rest; the other lines are those of the rest
record Parts (bytes : List ℕ) : Type 0 where
  first : first_or_empty (lines bytes) ≡ front_of bytes ++ first_or_empty (lines (after_of bytes))
  others : lines_after bytes ≡ lines_after (after_of bytes)
  solid : list_all (λ b. not (is_blank b)) (front_of bytes) ≡ true
  apart : ends_field (after_of bytes) ≡ true

parts_at_end : (bytes : List ℕ) → ends_field bytes ≡ true → Parts bytes
parts_at_end bytes h = let none = field_len-none bytes h in record { first = rw none refl; others = rw none refl; solid = rw none refl; apart = rw none h }

parts_inside : (b : ℕ) (bytes : List ℕ) → ends_field (b ∷ bytes) ≡ false → Parts bytes → Parts (b ∷ bytes)
parts_inside b bytes h p =
    let one = field_len-cons b bytes h in
    let x = or_parts (is_blank b || eqb b 10) (eqb b 13 && starts_with_lf bytes) h in
    let y = or_parts (is_blank b) (eqb b 10) x.0 in
    record {
      first = rw one (first-byte b bytes y.1 x.1 ∙ ap (λ (line : List ℕ). b ∷ line) p.first);
      others = rw one (rest-byte b bytes y.1 x.1 ∙ p.others);
      solid = rw (one, y.0) p.solid;
      apart = rw one p.apart;
    }

parts : (bytes : List ℕ) → Parts bytes
parts [] = parts_at_end [] refl
parts (b ∷ bytes) = elim (cases_Bool (ends_field (b ∷ bytes))) [
  | inl at_end ↦ parts_at_end (b ∷ bytes) at_end
  | inr inside ↦ parts_inside b bytes inside (parts bytes)
]

-- no field begins where one ends and no blank stands
no_line : (bytes : List ℕ) → ends_field bytes ≡ true → starts_with_blank bytes ≡ false → first_or_empty (lines bytes) ≡ []
no_line [] h solid = refl
no_line (b ∷ bytes) h solid =
    elim (or_cases (is_blank b || eqb b 10) (eqb b 13 && starts_with_lf bytes) h) [
      | inl first ↦ elim (or_cases (is_blank b) (eqb b 10) first) [
        | inl blank ↦ absurd (false≢true (sym solid ∙ blank))
        | inr at_lf ↦ rw (eqb-true b 10 at_lf, lines-lf bytes) refl
      ]
      | inr return ↦
          let both = and_parts (eqb b 13) (starts_with_lf bytes) return in
          let rest = lf_starts bytes both.1 in
          rw (eqb-true b 13 both.0, rest.1, lines-cr_lf rest.0) refl
    ]

pub nothing_left : (bytes : List ℕ) → field_len bytes ≡ 0 → starts_with_blank bytes ≡ false → fields_left bytes ≡ []
nothing_left bytes none solid =
    let p = parts bytes in
    let apart : ends_field (drop (field_len bytes) bytes) ≡ true = p.apart in
    none_in_empty bytes (no_line bytes (rw none at apart) solid)

pub Taken-field : (bytes : List ℕ) (n : ℕ) → field_len bytes ≡ suc n → Taken bytes (take (suc n) bytes) (drop (suc n) bytes)
unfolding fields_left
Taken-field [] n e = let none = field_len-none [] refl in absurd (omega arith)
Taken-field (b ∷ bytes) n e =
    let p = parts (b ∷ bytes) in
    let first : first_or_empty (lines (b ∷ bytes)) ≡ (b ∷ take n bytes) ++ first_or_empty (lines (drop n bytes)) = rw e at p.first in
    let solid : list_all (λ x. not (is_blank x)) (b ∷ take n bytes) ≡ true = rw e at p.solid in
    let apart : ends_field (drop n bytes) ≡ true = rw e at p.apart in
    let others : lines_after (b ∷ bytes) ≡ lines_after (drop n bytes) = rw e at p.others in
    record {
      fields = ap fields_in first ∙ fields-front b (take n bytes) (first_or_empty (lines (drop n bytes))) solid (starts_apart (drop n bytes) apart);
      lines = sym others;
    }

-- ---- loops over bytes

pub next-byte : (bytes : List ℕ) (n : ℕ) → n < length bytes → drop n bytes ≡ get_or bytes n 0 ∷ drop (n + 1) bytes
next-byte bytes n lt = rw add-one (drop-cons bytes n 0 lt)

pub blank_more : (bytes : List ℕ) (n : ℕ) → n < length bytes → is_blank (get_or bytes n 0) ≡ true → SameLeft bytes (drop n bytes) → SameLeft bytes (drop (n + 1) bytes)
blank_more bytes n lt blank so_far =
    SameLeft-then bytes (drop n bytes) (drop (n + 1) bytes) so_far (rw (next-byte bytes n lt) (SameLeft-blank (get_or bytes n 0) (drop (n + 1) bytes) blank))

pub solid_at : (bytes : List ℕ) (n : ℕ) → n < length bytes → is_blank (get_or bytes n 0) ≡ false → starts_with_blank (drop n bytes) ≡ false
solid_at bytes n lt solid = rw (next-byte bytes n lt) solid

pub solid_past : (bytes : List ℕ) (n : ℕ) → length bytes ≤ n → starts_with_blank (drop n bytes) ≡ false
solid_past bytes n le = rw (drop_of_length-le bytes le) refl

pub field_more : (bytes : List ℕ) (n : ℕ) → n < length bytes → ends_field (drop n bytes) ≡ false → field_len bytes ≡ n + field_len (drop n bytes) → field_len bytes ≡ n + 1 + field_len (drop (n + 1) bytes)
field_more bytes n lt inside so_far =
    let here = next-byte bytes n lt in
    let inside' : ends_field (get_or bytes n 0 ∷ drop (n + 1) bytes) ≡ false = rw here at inside in
    let so_far' : field_len bytes ≡ n + field_len (get_or bytes n 0 ∷ drop (n + 1) bytes) = rw here at so_far in
    omega (arith, field_len-cons (get_or bytes n 0) (drop (n + 1) bytes) inside')

pub field_all : (bytes : List ℕ) (n : ℕ) → ends_field (drop n bytes) ≡ true → field_len bytes ≡ n + field_len (drop n bytes) → n ≡ field_len bytes
field_all bytes n at_end so_far = omega (arith, field_len-none (drop n bytes) at_end)

pub field_past : (bytes : List ℕ) (n : ℕ) → length bytes ≤ n → field_len bytes ≡ n + field_len (drop n bytes) → n ≡ field_len bytes
field_past bytes n le so_far = field_all bytes n (rw (drop_of_length-le bytes le) refl) so_far

-- ---- taking a field

pub none_at : (bytes rest : List ℕ) (n : ℕ) → SameLeft bytes rest → starts_with_blank rest ≡ false → n ≡ field_len rest → n ≡ 0 → NoneLeft bytes (drop n rest)
none_at bytes rest n same solid len none =
    let left = nothing_left rest (sym len ∙ none) solid in
    rw none (record { before = sym same.fields ∙ left; after = left; lines = same.lines })

taken_suc : (bytes rest : List ℕ) (n : ℕ) → SameLeft bytes rest → suc n ≡ field_len rest → Taken bytes (take (suc n) rest) (drop (suc n) rest)
taken_suc bytes rest n same len =
    let t = Taken-field rest n (sym len) in
    record { fields = sym same.fields ∙ t.fields; lines = t.lines ∙ same.lines }

pub taken_at : (bytes rest : List ℕ) (n : ℕ) → SameLeft bytes rest → n ≡ field_len rest → (n ≡ 0 → ⊥) → Taken bytes (take n rest) (drop n rest)
taken_at bytes rest zero same len some = absurd (some refl)
taken_at bytes rest (suc n) same len some = taken_suc bytes rest n same len

-- ---- the end of a line

lines-return : (b : ℕ) (bytes rest : List ℕ) → b ≡ 13 → bytes ≡ 10 ∷ rest → lines (b ∷ bytes) ≡ [] ∷ lines rest
lines-return b bytes rest at_return at_lf = rw (at_return, at_lf) (lines-cr_lf rest)

lines-head : (b : ℕ) (bytes : List ℕ) → (line : List ℕ) × (more : List (List ℕ)) × (lines (b ∷ bytes) ≡ line ∷ more)
lines-head b bytes = elim (cases_Bool (eqb b 10)) [
  | inl at_lf ↦ ([], lines bytes, rw (eqb-true b 10 at_lf) (lines-lf bytes))
  | inr other ↦ elim (cases_Bool (eqb b 13 && starts_with_lf bytes)) [
    | inl return ↦
        let both = and_parts (eqb b 13) (starts_with_lf bytes) return in
        let rest = lf_starts bytes both.1 in
        ([], lines rest.0, lines-return b bytes rest.0 (eqb-true b 13 both.0) rest.1)
    | inr inside ↦ let o = onto_some b (lines bytes) in (o.0, o.1, lines-byte b bytes other inside ∙ o.2)
  ]
]

-- only where nothing is left there is no line
pub no_lines : (bytes : List ℕ) → lines bytes ≡ [] → length bytes ≡ 0
no_lines [] e = refl
no_lines (b ∷ bytes) e = let h = lines-head b bytes in let f = sym e ∙ h.2 in absurd cc

-- a byte other than an LF does not end the line
after-byte : (b : ℕ) (bytes : List ℕ) → eqb b 10 ≡ false → lines_after (b ∷ bytes) ≡ lines_after bytes
unfolding lines_after
after-byte b bytes other = elim (cases_Bool (eqb b 13 && starts_with_lf bytes)) [
  | inl return ↦
      let both = and_parts (eqb b 13) (starts_with_lf bytes) return in
      let rest = lf_starts bytes both.1 in
      rw (eqb-true b 13 both.0, rest.1, lines-cr_lf rest.0, lines-lf rest.0) refl
  | inr inside ↦ rest-byte b bytes other inside
]

pub line_more : (bytes : List ℕ) (n : ℕ) → n < length bytes → (get_or bytes n 0 ≡ 10 → ⊥) → lines_after bytes ≡ lines_after (drop n bytes) → lines_after bytes ≡ lines_after (drop (n + 1) bytes)
line_more bytes n lt other so_far =
    let here = next-byte bytes n lt in
    so_far ∙ rw here (after-byte (get_or bytes n 0) (drop (n + 1) bytes) (ne_eqb (get_or bytes n 0) 10 other))

pub line_ends : (bytes : List ℕ) (n : ℕ) → n < length bytes → get_or bytes n 0 ≡ 10 → lines_after bytes ≡ lines_after (drop n bytes) → lines (drop (n + 1) bytes) ≡ lines_after bytes
unfolding lines_after
line_ends bytes n lt at_lf so_far =
    let here : drop n bytes ≡ 10 ∷ drop (n + 1) bytes = next-byte bytes n lt ∙ ap (λ (b : ℕ). b ∷ drop (n + 1) bytes) at_lf in
    sym (so_far ∙ ap lines_after here ∙ ap all_but_first (lines-lf (drop (n + 1) bytes)))

pub line_past : (bytes : List ℕ) (n : ℕ) → length bytes ≤ n → lines_after bytes ≡ lines_after (drop n bytes) → lines (drop n bytes) ≡ lines_after bytes
unfolding lines_after
line_past bytes n le so_far =
    let none : drop n bytes ≡ [] = drop_of_length-le bytes le in
    ap lines none ∙ sym (so_far ∙ ap lines_after none)

-- ---- line by line

pub length-lines : (bytes : List ℕ) → length (lines bytes) ≤ length bytes
length-lines [] = omega arith
length-lines (b ∷ bytes) = elim (cases_Bool (eqb b 10)) [
  | inl at_lf ↦ let e : lines (b ∷ bytes) ≡ [] ∷ lines bytes = rw (eqb-true b 10 at_lf) (lines-lf bytes) in omega (arith, ap length e, length-lines bytes)
  | inr other ↦ elim (cases_Bool (eqb b 13 && starts_with_lf bytes)) [
    | inl return ↦
        let both = and_parts (eqb b 13) (starts_with_lf bytes) return in
        let rest = lf_starts bytes both.1 in
        let e : lines (b ∷ bytes) ≡ [] ∷ lines rest.0 = lines-return b bytes rest.0 (eqb-true b 13 both.0) rest.1 in
        let f : lines bytes ≡ [] ∷ lines rest.0 = ap lines rest.1 ∙ lines-lf rest.0 in
        omega (arith, ap length e, ap length f, length-lines bytes)
    | inr inside ↦ omega (arith, ap length (lines-byte b bytes other inside), length-onto b (lines bytes), length-lines bytes)
  ]
]
