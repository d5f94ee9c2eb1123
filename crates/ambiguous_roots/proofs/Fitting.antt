-- How many numbers a list can have: distinct numbers of another list are no more than that has, and ascending numbers below
-- an end are no more than there are below it.
use Rattle.std.proofs.Common.{◌≡◌, ◌≢◌, ℕ, zero, suc, ◌+◌, ◌<◌, ◌≤◌, List, [], ◌∷◌, length, get_or, true, false, nat_eq, inl, inr, refl, sym, ◌∙◌, arith}
use Rattle.std.proofs.lemmas.Bool.{cases_Bool, or_cases, or_right, false≢true, eqb-true, ne_eqb}
use Rattle.std.proofs.lemmas.List.Elements.{All-head, All-tail}
use Rattle.std.specs.List.{list_any}
use Rattle.std.specs.Prelude.{All, AllPairs, filter, not}

-- the numbers of a list but for one
abbrev without : ℕ → List ℕ → List ℕ
without x ys = filter (λ y. not (nat_eq x y)) ys

without-most : (x : ℕ) (ys : List ℕ) → length (without x ys) ≤ length ys
without-most x [] = omega arith
without-most x (y ∷ ys) = (let rest = without-most x ys in elim (cases_Bool (nat_eq x y)) [ inl here ↦ rw here (omega arith) | inr other ↦ rw other (omega arith) ])

without-less : (x : ℕ) (ys : List ℕ) → list_any (nat_eq x) ys ≡ true → length (without x ys) + 1 ≤ length ys
without-less x [] e = absurd (false≢true e)
without-less x (y ∷ ys) e = elim (cases_Bool (nat_eq x y)) [
  | inl here ↦ (let most = without-most x ys in rw here (omega arith))
  | inr other ↦ (let rest = without-less x ys (rw other at e) in rw other (omega arith))
]

without-keeps : (x z : ℕ) (ys : List ℕ) → x ≢ z → list_any (nat_eq z) ys ≡ true → list_any (nat_eq z) (without x ys) ≡ true
without-keeps x z [] apart e = e
without-keeps x z (y ∷ ys) apart e = elim (cases_Bool (nat_eq x y)) [
  | inl here ↦ (let other : nat_eq z y ≡ false = ne_eqb z y (λ same. apart (eqb-true x y here ∙ sym same)) in
      rw here (without-keeps x z ys apart (rw other at e)))
  | inr away ↦ rw away (elim (or_cases (nat_eq z y) (list_any (nat_eq z) ys) e) [
    | inl is ↦ (rw is refl)
    | inr later ↦ or_right (nat_eq z y) (list_any (nat_eq z) (without x ys)) (without-keeps x z ys apart later)
  ])
]

-- distinct numbers of another list
pub length-among : (xs ys : List ℕ) → AllPairs (λ (x y : ℕ). x ≢ y) xs → All (λ x. list_any (nat_eq x) ys ≡ true) xs → length xs ≤ length ys
length-among [] ys once among = omega arith
length-among (x ∷ xs) ys once among =
    let less = without-less x ys (All-head (λ z. list_any (nat_eq z) ys ≡ true) x xs among) in
    let rest = length-among xs (without x ys) (λ i j d l m. once (suc i) (suc j) d (omega arith) (omega arith))
    (λ i d l. without-keeps x (get_or xs i d) ys (once 0 (suc i) d (omega arith) (omega arith)) (All-tail (λ z. list_any (nat_eq z) ys ≡ true) x xs among i d l)) in
    omega arith

-- ascending numbers from a start on
climbs : (xs : List ℕ) (from i : ℕ) → AllPairs (λ (x y : ℕ). x < y) xs → All (λ x. from ≤ x) xs → i < length xs → from + i ≤ get_or xs i 0
climbs xs from zero up low l = omega (arith, low 0 0 l)
climbs xs from (suc i) up low l = omega (arith, climbs xs from i up low (omega arith), up i (suc i) 0 (omega arith) l)

pub length-below : (xs : List ℕ) (from n : ℕ) → AllPairs (λ (x y : ℕ). x < y) xs → All (λ x. from ≤ x) xs → All (λ x. x < from + n) xs → length xs ≤ n
length-below xs from n up low high = go (length xs) refl
  where
    go : (k : ℕ) → length xs ≡ k → length xs ≤ n
    go zero e = omega arith
    go (suc k) e = omega (arith, climbs xs from k up low (omega arith), high k 0 (omega arith))
