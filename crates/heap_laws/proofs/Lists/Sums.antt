-- Sums over the numbers of threads.
use Rattle.std.proofs.Common.{◌≡◌, ◌≢◌, ℕ, zero, suc, ◌+◌, ◌*◌, ◌<◌, ◌≤◌, List, length, map, refl, sym, ◌∙◌, ap, arith, get_or, inl, inr, sum}
use Rattle.std.proofs.lemmas.Bool.{cases_eq}
use Rattle.std.proofs.lemmas.List.{length-map, get_or-map}
use Rattle.std.proofs.lemmas.List.FromFn.{fill_by_all}
use Rattle.std.proofs.lemmas.List.Sums.{sum-map, sum_by-cons}
use Rattle.std.specs.List.{range_with_len, sum_by}
use Rattle.heap_laws.specs.Remaining.{collection_weight}

pub sum_same : (f g : ℕ → ℕ) (a n : ℕ) → ((u : ℕ) → a ≤ u → u < a + n → g u ≡ f u) → sum_by g (range_with_len a n) ≡ sum_by f (range_with_len a n)
sum_same f g a zero h = refl
sum_same f g a (suc n) h =
    let here = h a (omega arith) (omega arith) in
    let rest = sum_same f g (a + 1) n (λ u low high. h u (omega arith) (omega arith)) in
    omega (arith, sum_by-cons f a (range_with_len (a + 1) n), sum_by-cons g a (range_with_len (a + 1) n))

pub sum_le : (f g : ℕ → ℕ) (a n : ℕ) → ((u : ℕ) → a ≤ u → u < a + n → f u ≤ g u) → sum_by f (range_with_len a n) ≤ sum_by g (range_with_len a n)
sum_le f g a zero h = omega arith
sum_le f g a (suc n) h =
    let here = h a (omega arith) (omega arith) in
    let rest = sum_le f g (a + 1) n (λ u low high. h u (omega arith) (omega arith)) in
    omega (arith, sum_by-cons f a (range_with_len (a + 1) n), sum_by-cons g a (range_with_len (a + 1) n))

-- one number's part changes
pub sum_change : (f g : ℕ → ℕ) (t a n : ℕ) → a ≤ t → t < a + n → ((u : ℕ) → u ≢ t → g u ≡ f u) →
    sum_by g (range_with_len a n) + f t ≡ sum_by f (range_with_len a n) + g t
sum_change f g t a zero low high h = absurd (omega arith)
sum_change f g t a (suc n) low high h = elim (cases_eq t a) [
  | inl same ↦ (
      let rest = sum_same f g (a + 1) n (λ u l m. h u (λ e. omega arith)) in
      let one : f t ≡ f a = ap f same in
      let two : g t ≡ g a = ap g same in
      omega (arith, sum_by-cons f a (range_with_len (a + 1) n), sum_by-cons g a (range_with_len (a + 1) n)))
  | inr other ↦ (
      let rest = sum_change f g t (a + 1) n (omega arith) (omega arith) h in
      let here = h a (λ e. other (sym e)) in
      omega (arith, sum_by-cons f a (range_with_len (a + 1) n), sum_by-cons g a (range_with_len (a + 1) n)))
]

-- a sum over a list is one over its places
pub sum_places : {X : Type 0} (f : X → ℕ) (xs : List X) (d : X) → sum_by f xs ≡ sum_by (λ t. f (get_or xs t d)) (range_with_len 0 (length xs))
sum_places f xs d =
    sym (sum-map f xs)
    ∙ ap sum (fill_by_all (λ t. f (get_or xs t d)) (map f xs) (length xs) 0 (length-map xs f)
    (λ k l. get_or-map f xs k d 0 (omega (arith, length-map xs f))))
    ∙ sum-map (λ t. f (get_or xs t d)) (range_with_len 0 (length xs))

-- a sum of two and twice each part
pub sum_double : (f : ℕ → ℕ) (a n : ℕ) → sum_by (λ t. 2 + 2 * f t) (range_with_len a n) ≡ 2 * n + 2 * sum_by f (range_with_len a n)
sum_double f a zero = refl
sum_double f a (suc n) =
    let rest = sum_double f (a + 1) n in
    omega (arith, sum_by-cons f a (range_with_len (a + 1) n), sum_by-cons (λ t. 2 + 2 * f t) a (range_with_len (a + 1) n))

-- a sum of one more and each part
pub sum_more : (f : ℕ → ℕ) (a n : ℕ) → sum_by (λ t. 1 + f t) (range_with_len a n) ≡ n + sum_by f (range_with_len a n)
sum_more f a zero = refl
sum_more f a (suc n) =
    let rest = sum_more f (a + 1) n in
    omega (arith, sum_by-cons f a (range_with_len (a + 1) n), sum_by-cons (λ t. 1 + f t) a (range_with_len (a + 1) n))

-- a sum of two parts, the second with the weight of a collection
pub sum_weighted : (f g : ℕ → ℕ) (a n : ℕ) → sum_by (λ t. f t + collection_weight * g t) (range_with_len a n)
    ≡ sum_by f (range_with_len a n) + collection_weight * sum_by g (range_with_len a n)
sum_weighted f g a zero = refl
sum_weighted f g a (suc n) =
    let rest = sum_weighted f g (a + 1) n in
    omega (
      arith,
      sum_by-cons f a (range_with_len (a + 1) n),
      sum_by-cons g a (range_with_len (a + 1) n),
      sum_by-cons (λ t. f t + collection_weight * g t) a (range_with_len (a + 1) n),
    )
