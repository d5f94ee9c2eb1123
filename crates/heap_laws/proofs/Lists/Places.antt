-- What stands at a place of a list after a write or a push, and what is known of an option that is there.
use Rattle.std.proofs.Common.{◌≡◌, ◌≢◌, ℕ, ◌<◌, ◌≤◌, List, [], ◌∷◌, ◌++◌, length, Option, Some, None, ◌⊎◌, inl, inr, refl, sym, ◌∙◌, subst, ap, arith, get_or, set}
use Rattle.std.proofs.lemmas.Bool.{cases_lt, cases_eq, cases_order, false≢true}
use Rattle.std.proofs.lemmas.List.{get_or_past, set_past, get_or-set_same, get_or-set_other, get_or_append_left, get_or_push, length_push}
use Rattle.std.specs.Prelude.{IfSome, IsSome}

-- after a write to place i there stands at j what was there, or j is i and the new value stands there
pub set_cases : {X : Type 0} (xs : List X) (i j : ℕ) (y d : X) →
    (get_or (set xs i y) j d ≡ get_or xs j d) ⊎ ((j ≡ i) × (i < length xs) × (get_or (set xs i y) j d ≡ y))
set_cases {X} xs i j y d = elim (cases_eq j i) [
  | inr h ↦ inl (get_or-set_other xs i j y d h)
  | inl h ↦ elim (cases_lt i (length xs)) [
    | inl l ↦ inr (h, l, subst (λ (k : ℕ). get_or (set xs i y) k d ≡ y) (sym h) (get_or-set_same xs i y d l))
    | inr l ↦ inl (ap (λ (zs : List X). get_or zs j d) (set_past xs i y l))
  ]
]

-- after a push there stands at j what was there, or j is the old length and the new value stands there
pub push_cases : {X : Type 0} (xs : List X) (j : ℕ) (y d : X) →
    ((j ≢ length xs) × (get_or (xs ++ y ∷ []) j d ≡ get_or xs j d)) ⊎ ((j ≡ length xs) × (get_or (xs ++ y ∷ []) j d ≡ y))
push_cases {X} xs j y d = elim (cases_order j (length xs)) [
  | inl h ↦ inr (h, get_or_push xs y d j (sym h))
  | inr h ↦ elim h [
    | inl l ↦ inl ((λ e. omega arith), get_or_append_left xs (y ∷ []) d j l)
    | inr l ↦ (
        let past : length (xs ++ y ∷ []) ≤ j = omega (arith, length_push xs y) in
        let under : length xs ≤ j = omega arith in
        inl ((λ e. omega arith), get_or_past (xs ++ y ∷ []) j d past ∙ sym (get_or_past xs j d under)))
  ]
]

-- what is known of the value of an option that is there
pub IfSome-at : {X : Type 0} (P : X → Type 0) (o : Option X) (x : X) → o ≡ Some x → IfSome o P → P x
IfSome-at P None x e h = cc
IfSome-at P (Some y) x e h = let same : y ≡ x = cc in subst P same h

pub IfSome-from : {X : Type 0} (P : X → Type 0) (o : Option X) → ((x : X) → o ≡ Some x → P x) → IfSome o P
IfSome-from P None h = tt
IfSome-from P (Some x) h = h x refl

pub IsSome-value : {X : Type 0} (o : Option X) → IsSome o → (x : X) × (o ≡ Some x)
IsSome-value None h = absurd (false≢true h)
IsSome-value (Some x) h = (x, refl)

pub IsSome-from : {X : Type 0} (o : Option X) (x : X) → o ≡ Some x → IsSome o
IsSome-from o x e = rw e refl
