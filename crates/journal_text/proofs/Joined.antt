-- Fields joined by single spaces, and cut at them again.
use Rattle.std.proofs.Common.{◌≡◌, ℕ, Bool, true, false, leb, List, [], ◌∷◌, ◌++◌, refl, ap, sym, ◌∙◌, arith, inl, inr, append-nil}
use Rattle.std.specs.List.{AllByRecursion, flat_map, list_all, slice_split}
use Rattle.std.proofs.lemmas.Bool.{cases_Bool, eqb-true, ne_eqb, leb-true, le-leb, and_parts}
use Rattle.heap_terms.specs.Text.{field}
use Rattle.journal_text.specs.Cursors.{is_space}

abbrev pub solid : ℕ → Bool
solid b = leb 33 b

-- no byte of a field is a space or an LF
abbrev pub Solid : List ℕ → Type 0
Solid f = list_all solid f ≡ true

abbrev pub joined : List (List ℕ) → List ℕ
joined [] = []
joined (f ∷ fields) = f ++ flat_map field fields

parts : (bytes : List ℕ) → (f : List ℕ) × (fields : List (List ℕ)) × (slice_split is_space bytes ≡ f ∷ fields)
parts [] = ([], [], refl)
parts (b ∷ bytes) = elim (cases_Bool (is_space b)) [
  | inl space ↦ ([], slice_split is_space bytes, rw space refl)
  | inr other ↦ let r = parts bytes in (b ∷ r.0, r.1, rw (other, r.2) refl)
]

pub joined_split : (bytes : List ℕ) → joined (slice_split is_space bytes) ≡ bytes
joined_split [] = refl
joined_split (b ∷ bytes) =
    let r = parts bytes in
    let rest : joined (r.0 ∷ r.1) ≡ bytes = ap joined (sym r.2) ∙ joined_split bytes in
    elim (cases_Bool (is_space b)) [
      | inl space ↦
          let is = eqb-true b 32 space in
          let step : slice_split is_space (b ∷ bytes) ≡ [] ∷ (r.0 ∷ r.1) = rw (space, r.2) refl in
          ap joined step ∙ (λ i. sym is i ∷ rest i)
      | inr other ↦
          let step : slice_split is_space (b ∷ bytes) ≡ (b ∷ r.0) ∷ r.1 = rw (other, r.2) refl in
          ap joined step ∙ ap (λ (xs : List ℕ). b ∷ xs) rest
    ]

split_onto : (f : List ℕ) (rest : List ℕ) → Solid f → slice_split is_space (f ++ (32 ∷ rest)) ≡ f ∷ slice_split is_space rest
split_onto [] rest good = refl
split_onto (b ∷ f) rest good =
    let both = and_parts (solid b) (list_all solid f) good in
    let low = leb-true 33 b both.0 in
    let other : is_space b ≡ false = ne_eqb b 32 (λ e. omega arith) in
    let more : slice_split is_space (f ++ (32 ∷ rest)) ≡ f ∷ slice_split is_space rest = split_onto f rest both.1 in
    rw (other, more) refl

split_alone : (f : List ℕ) → Solid f → slice_split is_space f ≡ f ∷ []
split_alone [] good = refl
split_alone (b ∷ f) good =
    let both = and_parts (solid b) (list_all solid f) good in
    let low = leb-true 33 b both.0 in
    let other : is_space b ≡ false = ne_eqb b 32 (λ e. omega arith) in
    let more : slice_split is_space f ≡ f ∷ [] = split_alone f both.1 in
    rw (other, more) refl

pub split_joined : (f : List ℕ) (fields : List (List ℕ)) → AllByRecursion Solid (f ∷ fields) → slice_split is_space (joined (f ∷ fields)) ≡ f ∷ fields
split_joined f [] good = ap (slice_split is_space) (append-nil f) ∙ split_alone f good.0
split_joined f (g ∷ fields) good = split_onto f (joined (g ∷ fields)) good.0 ∙ ap (λ (xs : List (List ℕ)). f ∷ xs) (split_joined g fields good.1)

-- no byte of it is below a space
abbrev pub inside : ℕ → Bool
inside b = leb 32 b

inside_more : (f rest : List ℕ) → Solid f → list_all inside rest ≡ true → list_all inside (f ++ rest) ≡ true
inside_more [] rest good more = more
inside_more (b ∷ f) rest good more =
    let both = and_parts (solid b) (list_all solid f) good in
    let low = leb-true 33 b both.0 in
    let here : inside b ≡ true = le-leb 32 b (omega arith) in
    let rest : list_all inside (f ++ rest) ≡ true = inside_more f rest both.1 more in
    rw (here, rest) refl

fields_inside : (fields : List (List ℕ)) → AllByRecursion Solid fields → list_all inside (flat_map field fields) ≡ true
fields_inside [] good = refl
fields_inside (f ∷ fields) good = inside_more f (flat_map field fields) good.0 (fields_inside fields good.1)

pub joined_inside : (fields : List (List ℕ)) → AllByRecursion Solid fields → list_all inside (joined fields) ≡ true
joined_inside [] good = refl
joined_inside (f ∷ fields) good = inside_more f (flat_map field fields) good.0 (fields_inside fields good.1)
