-- What a list of all names, and one of some names in another order, come to once each name tells a list of its own.
use Rattle.std.proofs.Common.{zero-add, ◌≡◌, ◌≢◌, ℕ, suc, ◌+◌, ◌<◌, List, [], ◌∷◌, ◌++◌, get_or, refl, sym, ◌∙◌, subst, ap, arith, Bool, true, false, inl, inr}
use Rattle.std.proofs.lemmas.Bool.{cases_Bool, cases_eq, eq-eqb, eqb-true, ne_eqb, false≢true}
use Rattle.std.proofs.lemmas.List.{append-nil}
use Rattle.std.proofs.lemmas.List.Elements.{filter-append}
use Rattle.std.proofs.lemmas.List.Folds.{list_any_at}
use Rattle.std.proofs.lemmas.List.FromFn.{length-range_with_len, get_or-range_with_len}
use Rattle.std.proofs.lemmas.List.Sums.{sum_by-cons}
use Rattle.std.specs.Prelude.{All, AllPairs, ◌==◌, ◌||◌, cond, filter, flat_map, count_by, nat_eq}
use Rattle.std.specs.List.{list_any, range_with_len}
use Rattle.pass_laws.proofs.Lookups.{found_at}
use Rattle.pass_names.proofs.Ascending.{has_key}

-- ---- lists without doubles

distinct_rest : (m : ℕ) (rest : List ℕ) → AllPairs (λ (x y : ℕ). x ≢ y) (m ∷ rest) → AllPairs (λ (x y : ℕ). x ≢ y) rest
distinct_rest m rest h i j d l k = h (suc i) (suc j) d (omega (arith, l)) (omega (arith, k))

-- the first is not among the others
not_again : (m : ℕ) (rest : List ℕ) → AllPairs (λ (x y : ℕ). x ≢ y) (m ∷ rest) → list_any (nat_eq m) rest ≡ false
not_again m rest h = elim (cases_Bool (list_any (nat_eq m) rest)) [
  | inl again ↦ (
      let f = found_at (nat_eq m) rest again in
      absurd (h 0 (suc f.0) 0 (omega arith) (let l = f.1 in omega arith) (eqb-true m (get_or rest f.0 0) (f.2 0))))
  | inr never ↦ never
]

pub range_distinct : (n : ℕ) → AllPairs (λ (x y : ℕ). x ≢ y) (range_with_len 0 n)
range_distinct n i j d l k =
    let inside : j < n = omega (arith, k, length-range_with_len 0 n) in
    λ e. omega (arith, get_or-range_with_len 0 n i d (omega (arith, l, inside)), get_or-range_with_len 0 n j d inside, e, l)

pub range_has : (n x : ℕ) → x < n → list_any (nat_eq x) (range_with_len 0 n) ≡ true
range_has n x l = list_any_at (nat_eq x) (range_with_len 0 n) x 0 (omega (arith, l, length-range_with_len 0 n)) (eq-eqb x (get_or (range_with_len 0 n) x 0) (sym (get_or-range_with_len 0 n x 0 l ∙ zero-add x)))

-- ---- what a name tells

module _ {X : Type 0} (key : X → ℕ) (f : ℕ → List X) (own : (m : ℕ) → All (λ x. key x ≡ m) (f m)) where
  all_own : (n : ℕ) (xs : List X) → All (λ x. key x ≡ n) xs → filter (has_key key n) xs ≡ xs
  all_own n [] h = refl
  all_own n (x ∷ xs) h = rw (eq-eqb (key x) n (h 0 x (omega arith))) (ap (λ (ys : List X). x ∷ ys) (all_own n xs (λ k d l. h (suc k) d (omega (arith, l)))))

  no_own : (n m : ℕ) → m ≢ n → (xs : List X) → All (λ x. key x ≡ m) xs → filter (has_key key n) xs ≡ []
  no_own n m apart [] h = refl
  no_own n m apart (x ∷ xs) h =
      rw (ne_eqb (key x) n (λ e. apart (sym (h 0 x (omega arith)) ∙ e))) (no_own n m apart xs (λ k d l. h (suc k) d (omega (arith, l))))

  -- a name that tells nothing has nothing
  pub told_nothing : (n : ℕ) (names : List ℕ) → f n ≡ [] → filter (has_key key n) (flat_map f names) ≡ []
  told_nothing n [] none = refl
  told_nothing n (m ∷ rest) none =
      let here : filter (has_key key n) (f m) ≡ [] = elim (cases_eq m n) [
        | inl same ↦ (let nothing : f m ≡ [] = ap f same ∙ none in rw nothing refl)
        | inr apart ↦ no_own n m apart (f m) (own m)
      ] in
      filter-append (has_key key n) (f m) (flat_map f rest) ∙ ap (λ (ys : List X). ys ++ filter (has_key key n) (flat_map f rest)) here ∙ told_nothing n rest none

  absent : (n : ℕ) (names : List ℕ) → list_any (nat_eq n) names ≡ false → filter (has_key key n) (flat_map f names) ≡ []
  absent n [] none = refl
  absent n (m ∷ rest) none =
      let parts : (nat_eq n m ≡ false) × (list_any (nat_eq n) rest ≡ false) = neither (nat_eq n m) (list_any (nat_eq n) rest) none in
      let apart : m ≢ n = λ e. false≢true (sym parts.0 ∙ eq-eqb n m (sym e)) in
      filter-append (has_key key n) (f m) (flat_map f rest) ∙ ap (λ (ys : List X). ys ++ filter (has_key key n) (flat_map f rest)) (no_own n m apart (f m) (own m)) ∙ absent n rest parts.1
    where
      neither : (x y : Bool) → (x || y) ≡ false → (x ≡ false) × (y ≡ false)
      neither true y e = absurd (false≢true (sym e))
      neither false y e = (refl, e)

  -- a name that is there once has what it tells
  pub told_once : (n : ℕ) (names : List ℕ) → AllPairs (λ (x y : ℕ). x ≢ y) names → list_any (nat_eq n) names ≡ true → filter (has_key key n) (flat_map f names) ≡ f n
  told_once n [] once there = absurd (false≢true there)
  told_once n (m ∷ rest) once there = elim (cases_eq n m) [
    | inl same ↦ (
        let gone : filter (has_key key n) (flat_map f rest) ≡ [] = absent n rest (subst (λ (x : ℕ). list_any (nat_eq x) rest ≡ false) (sym same) (not_again m rest once)) in
        let here : filter (has_key key n) (f m) ≡ f n = subst (λ (x : ℕ). filter (has_key key n) (f x) ≡ f n) same (all_own n (f n) (own n)) in
        filter-append (has_key key n) (f m) (flat_map f rest) ∙ ap (λ (ys : List X). ys ++ filter (has_key key n) (flat_map f rest)) here ∙ ap (λ (ys : List X). f n ++ ys) gone ∙ append-nil (f n))
    | inr apart ↦ (
        let later : list_any (nat_eq n) rest ≡ true = rw (ne_eqb n m apart) at there in
        filter-append (has_key key n) (f m) (flat_map f rest) ∙ ap (λ (ys : List X). ys ++ filter (has_key key n) (flat_map f rest)) (no_own n m (λ e. apart (sym e)) (f m) (own m)) ∙ told_once n rest (distinct_rest m rest once) later)
  ]

-- ---- names that a test picks

count_cons : (n x : ℕ) (xs : List ℕ) → count_by (λ y. y == n) (x ∷ xs) ≡ cond (x == n) 1 0 + count_by (λ y. y == n) xs
count_cons n x xs = sum_by-cons (λ y. cond (y == n) 1 0) x xs

-- a number that the test refuses is not among them
pub picked_never : (p : ℕ → Bool) (n : ℕ) → p n ≡ false → (xs : List ℕ) → count_by (λ y. y == n) (filter p xs) ≡ 0
picked_never p n refuses [] = refl
picked_never p n refuses (x ∷ xs) = elim (cases_Bool (p x)) [
  | inl takes ↦ rw takes (
      let apart : ◌≡◌ {A = ℕ} (cond (x == n) 1 0) 0 = rw (ne_eqb x n (λ e. false≢true (sym refuses ∙ ap p (sym e) ∙ takes))) refl in
      let c = count_cons n x (filter p xs) in let rest = picked_never p n refuses xs in omega (arith, c, apart, rest))
  | inr out ↦ rw out (picked_never p n refuses xs)
]

never_there : (p : ℕ → Bool) (n : ℕ) (xs : List ℕ) → list_any (nat_eq n) xs ≡ false → count_by (λ y. y == n) (filter p xs) ≡ 0
never_there p n [] none = refl
never_there p n (x ∷ xs) none = elim (cases_eq n x) [
  | inl same ↦ absurd (false≢true (sym none ∙ rw (eq-eqb n x same) refl))
  | inr apart ↦ (
      let rest = never_there p n xs (rw (ne_eqb n x apart) at none) in
      elim (cases_Bool (p x)) [
        | inl takes ↦ rw takes (
            let other : ◌≡◌ {A = ℕ} (cond (x == n) 1 0) 0 = rw (ne_eqb x n (λ e. apart (sym e))) refl in
            let c = count_cons n x (filter p xs) in omega (arith, c, other, rest))
        | inr out ↦ rw out rest
      ])
]

-- one that it takes, and that is there once, is among them once
pub picked_once : (p : ℕ → Bool) (n : ℕ) → p n ≡ true → (xs : List ℕ) → AllPairs (λ (x y : ℕ). x ≢ y) xs → list_any (nat_eq n) xs ≡ true →
    count_by (λ y. y == n) (filter p xs) ≡ 1
picked_once p n passed [] once there = absurd (false≢true there)
picked_once p n passed (x ∷ xs) once there = elim (cases_eq n x) [
  | inl same ↦ (
      let here : p x ≡ true = ap p (sym same) ∙ passed in
      let gone = never_there p n xs (subst (λ (z : ℕ). list_any (nat_eq z) xs ≡ false) (sym same) (not_again x xs once)) in
      rw here (
      let one : ◌≡◌ {A = ℕ} (cond (x == n) 1 0) 1 = rw (eq-eqb x n (sym same)) refl in
      let c = count_cons n x (filter p xs) in omega (arith, c, one, gone)))
  | inr apart ↦ (
      let rest = picked_once p n passed xs (distinct_rest x xs once) (rw (ne_eqb n x apart) at there) in
      elim (cases_Bool (p x)) [
        | inl passes ↦ rw passes (
            let other : ◌≡◌ {A = ℕ} (cond (x == n) 1 0) 0 = rw (ne_eqb x n (λ e. apart (sym e))) refl in
            let c = count_cons n x (filter p xs) in omega (arith, c, other, rest))
        | inr out ↦ rw out rest
      ])
]
