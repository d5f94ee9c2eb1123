-- Lists in order: two that ascend and have the same elements are one.
use Rattle.std.proofs.Common.{◌≡◌, ◌≢◌, ℕ, zero, suc, ◌+◌, ◌<◌, ◌≤◌, List, [], ◌∷◌, length, refl, sym, ◌∙◌, subst, ap, arith, Bool, inl, inr}
use Rattle.std.proofs.lemmas.Bool.{cases_eq, eq-eqb, ne_eqb}
use Rattle.std.proofs.lemmas.List.Sums.{sum_by-cons}
use Rattle.std.specs.Prelude.{All, ◌==◌, cond, filter, count_by}
use Rattle.std.specs.List.Sorted.{IsNonDecreasingBy}

-- each element's key is at most those of the elements after it
abbrev pub Ascends : {X : Type 0} → (X → ℕ) → List X → Type 0
Ascends key [] = Unit {0}
Ascends key (x ∷ xs) = All (λ y. key x ≤ key y) xs × Ascends key xs

pub ascends-from : {X : Type 0} (key : X → ℕ) (xs : List X) → IsNonDecreasingBy key xs → Ascends key xs
ascends-from key [] h = tt
ascends-from key (x ∷ xs) h =
    (λ k d l. h 0 (suc k) d (omega arith) (omega (arith, l)), ascends-from key xs (λ i j d a b. h (suc i) (suc j) d (omega (arith, a)) (omega (arith, b))))

-- ---- numbers

count-cons : (n x : ℕ) (xs : List ℕ) → count_by (λ y. y == n) (x ∷ xs) ≡ cond (x == n) 1 0 + count_by (λ y. y == n) xs
count-cons n x xs = sum_by-cons (λ y. cond (y == n) 1 0) x xs

-- a number that is counted is no less than all of them
at_least : (b n : ℕ) (xs : List ℕ) → All (λ y. b ≤ y) xs → 0 < count_by (λ y. y == n) xs → b ≤ n
at_least b n [] h l = absurd (omega (arith, l))
at_least b n (x ∷ xs) h l = elim (cases_eq x n) [
  | inl same ↦ (let first = h 0 0 (omega arith) in omega (arith, first, same))
  | inr apart ↦ at_least b n xs (λ k d m. h (suc k) d (omega (arith, m))) (let c = count-cons n x xs in let no : ◌≡◌ {A = ℕ} (cond (x == n) 1 0) 0 = rw (ne_eqb x n apart) refl in omega (arith, l, c, no))
]

counted_here : (x : ℕ) (xs : List ℕ) → 0 < count_by (λ y. y == x) (x ∷ xs)
counted_here x xs = let c = count-cons x x xs in let yes : ◌≡◌ {A = ℕ} (cond (x == x) 1 0) 1 = rw (eq-eqb x x refl) refl in omega (arith, c, yes)

all-here : (x : ℕ) (xs : List ℕ) → All (λ y. x ≤ y) xs → All (λ y. x ≤ y) (x ∷ xs)
all-here x xs h zero d l = omega arith
all-here x xs h (suc k) d l = h k d (omega (arith, l))

-- numbers that ascend are one list where each is counted as often
pub same_numbers : (xs ys : List ℕ) → Ascends (λ x. x) xs → Ascends (λ x. x) ys → ((n : ℕ) → count_by (λ y. y == n) xs ≡ count_by (λ y. y == n) ys) → xs ≡ ys
same_numbers [] [] a b h = refl
same_numbers [] (y ∷ ys) a b h = absurd (let c = counted_here y ys in let e = h y in omega (arith, c, e))
same_numbers (x ∷ xs) [] a b h = absurd (let c = counted_here x xs in let e = h x in omega (arith, c, e))
same_numbers (x ∷ xs) (y ∷ ys) a b h =
    let low : x ≤ y = at_least x y (x ∷ xs) (all-here x xs a.0) (let c = counted_here y ys in let e = h y in omega (arith, c, e)) in
    let high : y ≤ x = at_least y x (y ∷ ys) (all-here y ys b.0) (let c = counted_here x xs in let e = h x in omega (arith, c, e)) in
    let same : x ≡ y = omega (arith, low, high) in
    let rest : xs ≡ ys = same_numbers xs ys a.1 b.1 (λ n. (
    let here = count-cons n x xs in
    let there = count-cons n y ys in
    let one : ◌≡◌ {A = ℕ} (cond (x == n) 1 0) (cond (y == n) 1 0) = ap (λ (z : ℕ). cond (z == n) 1 0) same in
    let e = h n in
    omega (arith, here, there, one, e))) in
    ap (λ (z : ℕ). z ∷ xs) same ∙ ap (λ (zs : List ℕ). y ∷ zs) rest

-- ---- elements with keys

abbrev pub has_key : {X : Type 0} → (X → ℕ) → ℕ → X → Bool
has_key key n x = key x == n

module _ {X : Type 0} (key : X → ℕ) where
  some_key : (b n : ℕ) (xs : List X) → All (λ y. b ≤ key y) xs → 0 < length (filter (has_key key n) xs) → b ≤ n
  some_key b n [] h l = absurd (omega (arith, l))
  some_key b n (x ∷ xs) h l = elim (cases_eq (key x) n) [
    | inl same ↦ (let first = h 0 x (omega arith) in omega (arith, first, same))
    | inr apart ↦ some_key b n xs (λ k d m. h (suc k) d (omega (arith, m))) (rw (ne_eqb (key x) n apart) at l)
  ]

  filter_yes : (n : ℕ) (x : X) (xs : List X) → key x ≡ n → filter (has_key key n) (x ∷ xs) ≡ x ∷ filter (has_key key n) xs
  filter_yes n x xs e = rw (eq-eqb (key x) n e) refl

  filter_no : (n : ℕ) (x : X) (xs : List X) → key x ≢ n → filter (has_key key n) (x ∷ xs) ≡ filter (has_key key n) xs
  filter_no n x xs e = rw (ne_eqb (key x) n e) refl

  all-first : (x : X) (xs : List X) → All (λ y. key x ≤ key y) xs → All (λ y. key x ≤ key y) (x ∷ xs)
  all-first x xs h zero d l = omega arith
  all-first x xs h (suc k) d l = h k d (omega (arith, l))

  head_same : (x y : X) (xs ys : List X) → ◌≡◌ {A = List X} (x ∷ xs) (y ∷ ys) → x ≡ y
  head_same x y xs ys e = cc

  tail_same : (x y : X) (xs ys : List X) → ◌≡◌ {A = List X} (x ∷ xs) (y ∷ ys) → xs ≡ ys
  tail_same x y xs ys e = cc

  -- lists that ascend by a key are one where, for each key, they have the same elements of that key in the same order
  pub same_by_keys : (xs ys : List X) → Ascends key xs → Ascends key ys → ((n : ℕ) → filter (has_key key n) xs ≡ filter (has_key key n) ys) → xs ≡ ys
  same_by_keys [] [] a b h = refl
  same_by_keys [] (y ∷ ys) a b h = absurd (let e = ap (λ (zs : List X). length zs) (h (key y) ∙ filter_yes (key y) y ys refl) in omega (arith, e))
  same_by_keys (x ∷ xs) [] a b h = absurd (let e = ap (λ (zs : List X). length zs) (sym (h (key x)) ∙ filter_yes (key x) x xs refl) in omega (arith, e))
  same_by_keys (x ∷ xs) (y ∷ ys) a b h =
      let low : key x ≤ key y = some_key (key x) (key y) (x ∷ xs) (all-first x xs a.0)
      (let e = ap (λ (zs : List X). length zs) (h (key y) ∙ filter_yes (key y) y ys refl) in omega (arith, e)) in
      let high : key y ≤ key x = some_key (key y) (key x) (y ∷ ys) (all-first y ys b.0)
      (let e = ap (λ (zs : List X). length zs) (sym (h (key x)) ∙ filter_yes (key x) x xs refl) in omega (arith, e)) in
      let same : key x ≡ key y = omega (arith, low, high) in
      let fronts : ◌≡◌ {A = List X} (x ∷ filter (has_key key (key x)) xs) (y ∷ filter (has_key key (key x)) ys) =
      sym (filter_yes (key x) x xs refl) ∙ h (key x) ∙ filter_yes (key x) y ys (sym same) in
      let rest : xs ≡ ys = same_by_keys xs ys a.1 b.1 (λ n. elim (cases_eq (key x) n) [
        | inl is ↦ subst (λ (m : ℕ). filter (has_key key m) xs ≡ filter (has_key key m) ys) is
            (tail_same x y (filter (has_key key (key x)) xs) (filter (has_key key (key x)) ys) fronts)
        | inr apart ↦ sym (filter_no n x xs apart) ∙ h n ∙ filter_no n y ys (λ e. apart (same ∙ e))
      ]) in
      ap (λ (z : X). z ∷ xs) (head_same x y (filter (has_key key (key x)) xs) (filter (has_key key (key x)) ys) fronts) ∙ ap (λ (zs : List X). y ∷ zs) rest
