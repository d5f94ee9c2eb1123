-- A field of a schedule, cut at its first `*`.
use Rattle.std.proofs.Common.{◌≡◌, ℕ, ◌+◌, ◌<◌, ◌≤◌, Bool, false, eqb, List, [], ◌∷◌, length, take, drop, Option, Some, None, Result, Err, refl, sym, ap, ◌∙◌, inl, inr, arith}
use Rattle.std.specs.Prelude.{position, ok_or, nat_le, ◌&&◌}
use Rattle.std.specs.List.{position_or_len, slice_split, onto_first, list_all}
use Rattle.std.proofs.lemmas.Bool.{cases_Bool, cases_lt, and_right, eqb-true, lt-ltb, le-ltb}
use Rattle.std.proofs.lemmas.List.Splits.{slice_split_first}
use Rattle.std.specs.Char.{is_digit}
use Rattle.heap_terms.specs.Fields.{◌>>=◌, number_of, turns_of, turns_of_parts}
use Rattle.heap_terms.specs.declared.faults.Why.{Why}
use Rattle.heap_terms.specs.declared.faults.Why.TheVariants.{Form}

abbrev pub star : ℕ → Bool
star b = eqb b 42

-- where no byte is a star there is one part
pub one_part : (xs : List ℕ) → length xs ≤ position_or_len star xs → slice_split star xs ≡ xs ∷ []
one_part [] h = refl
one_part (x ∷ xs) h = elim (cases_Bool (star x)) [
  | inl at_star ↦ let none = rw at_star at h in absurd (omega arith)
  | inr other ↦ let more = rw other at h in rw other (ap (λ (parts : List (List ℕ)). onto_first x parts) (one_part xs (omega arith)))
]

-- a list with a star is no number
no_number : (xs : List ℕ) → position_or_len star xs < length xs → list_all (λ c. is_digit c 10) xs ≡ false
no_number [] h = absurd (omega arith)
no_number (x ∷ xs) h = elim (cases_Bool (star x)) [
  | inl at_star ↦ let e : x ≡ 42 = eqb-true x 42 at_star in rw e refl
  | inr other ↦ let more = rw other at h in and_right (is_digit x 10) (list_all (λ c. is_digit c 10) xs) (no_number xs (omega arith))
]

none_without_digits : (xs : List ℕ) → list_all (λ c. is_digit c 10) xs ≡ false → number_of xs ≡ None
unfolding number_of
none_without_digits xs h =
    let e = and_right (nat_le 1 (length xs) && nat_le (length xs) 20) (list_all (λ c. is_digit c 10) xs) h in rw e refl

then_fails : {A B : Type 0} (r : Option A) (f : A → Result B Why) → ((x : A) → f x ≡ Err Form) → (ok_or r Form >>= f) ≡ Err Form
then_fails None f h = refl
then_fails (Some x) f h = h x

-- two numbers of which the second is none
bad_second : (threads : ℕ) (thread count : List ℕ) → number_of count ≡ None → turns_of_parts threads (thread ∷ count ∷ []) ≡ Err Form
bad_second threads thread count none = then_fails (number_of thread) _ (λ t. rw none refl)

some_part : (xs : List ℕ) → (y : List ℕ) × (ys : List (List ℕ)) × (slice_split star xs ≡ y ∷ ys)
some_part xs = elim (cases_lt (position_or_len star xs) (length xs)) [
  | inl lt ↦ (_, _, slice_split_first star xs 0 lt)
  | inr le ↦ (_, _, one_part xs le)
]

pub no_star : (threads : ℕ) (field : List ℕ) → length field ≤ position_or_len star field → turns_of threads field ≡ turns_of_parts threads (field ∷ [])
unfolding turns_of
no_star threads field h = ap (turns_of_parts threads) (one_part field h)

pub first_star : (threads : ℕ) (field : List ℕ) → position_or_len star field < length field
    → turns_of threads field ≡ turns_of_parts threads (take (position_or_len star field) field ∷ drop (position_or_len star field + 1) field ∷ [])
unfolding turns_of
first_star threads field h =
    let thread = take (position_or_len star field) field in
    let rest = drop (position_or_len star field + 1) field in
    let first : slice_split star field ≡ thread ∷ slice_split star rest = slice_split_first star field 0 h in
    elim (cases_lt (position_or_len star rest) (length rest)) [
      | inl lt ↦
          let more = some_part (drop (position_or_len star rest + 1) rest) in
          let second : slice_split star rest ≡ take (position_or_len star rest) rest ∷ more.0 ∷ more.1 = slice_split_first star rest 0 lt ∙ ap (λ (parts : List (List ℕ)). take (position_or_len star rest) rest ∷ parts) more.2 in
          ap (turns_of_parts threads) (first ∙ ap (λ (parts : List (List ℕ)). thread ∷ parts) second) ∙ sym (bad_second threads thread rest (none_without_digits rest (no_number rest lt)))
      | inr le ↦ ap (turns_of_parts threads) (first ∙ ap (λ (parts : List (List ℕ)). thread ∷ parts) (one_part rest le))
    ]

-- what `position` says
pub position_none : (xs : List ℕ) → None ≡ position star xs → length xs ≤ position_or_len star xs
position_none xs e = elim (cases_lt (position_or_len star xs) (length xs)) [
  | inl lt ↦ let t = lt-ltb _ _ lt in let f = rw t at e in absurd cc
  | inr le ↦ le
]

pub position_some : (xs : List ℕ) (i : ℕ) → Some i ≡ position star xs → (i ≡ position_or_len star xs) × (position_or_len star xs < length xs)
position_some xs i e = elim (cases_lt (position_or_len star xs) (length xs)) [
  | inl lt ↦ let t = lt-ltb _ _ lt in let f = rw t at e in (cc, lt)
  | inr le ↦ let t = le-ltb _ _ le in let f = rw t at e in absurd cc
]

pub cut_at : (threads : ℕ) (field : List ℕ) (i : ℕ) (thread count : List ℕ) → Some i ≡ position star field → thread ≡ take i field → count ≡ drop (i + 1) field
    → turns_of threads field ≡ turns_of_parts threads (thread ∷ count ∷ [])
cut_at threads field i thread count place front back =
    let p = position_some field i place in
    rw (front, back, p.0) (first_star threads field p.1)
