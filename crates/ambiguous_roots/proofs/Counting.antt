-- Counting names of a range: one more where a test has one name more, and by two tests that part them.
use Rattle.std.proofs.Common.{◌≡◌, ℕ, zero, suc, ◌+◌, ◌<◌, ◌≤◌, List, [], ◌∷◌, Bool, true, false, inl, inr, refl, sym, ◌∙◌, ap, cond, arith}
use Rattle.std.proofs.lemmas.Bool.{cases_eq, eq-eqb, ne_eqb}
use Rattle.std.proofs.lemmas.List.Sums.{sum_by-cons}
use Rattle.std.specs.List.{range_with_len}
use Rattle.std.specs.Prelude.{◌==◌, ◌&&◌, ◌||◌, not, count_by}

-- what one element counts
abbrev ones : Bool → ℕ
ones b = cond {A = ℕ} b 1 0

count-cons : {X : Type 0} (p : X → Bool) (x : X) (xs : List X) → count_by p (x ∷ xs) ≡ cond {A = ℕ} (p x) 1 0 + count_by p xs
count-cons p x xs = sum_by-cons (λ y. cond {A = ℕ} (p y) 1 0) x xs

-- tests that agree count alike
pub count-same : {X : Type 0} (p q : X → Bool) (xs : List X) → ((x : X) → p x ≡ q x) → count_by p xs ≡ count_by q xs
count-same p q [] same = refl
count-same p q (x ∷ xs) same = (let rest = count-same p q xs same in let here = ap ones (same x) in
    omega (arith, count-cons p x xs, count-cons q x xs, rest, here))

-- a test that nothing passes counts nothing
pub count-none : {X : Type 0} (p : X → Bool) (xs : List X) → ((x : X) → p x ≡ false) → count_by p xs ≡ 0
count-none p [] none = refl
count-none p (x ∷ xs) none = (let rest = count-none p xs none in let here = ap ones (none x) in omega (arith, count-cons p x xs, rest, here))

-- those that pass a second test, and those that do not
pub count-parts : {X : Type 0} (p q : X → Bool) (xs : List X) → count_by (λ x. p x && not (q x)) xs + count_by (λ x. p x && q x) xs ≡ count_by p xs
count-parts p q [] = refl
count-parts p q (x ∷ xs) =
    (let rest = count-parts p q xs in let here = parts (p x) (q x) in
    omega (arith, count-cons (λ x. p x && not (q x)) x xs, count-cons (λ x. p x && q x) x xs, count-cons p x xs, rest, here))
  where
    parts : (b c : Bool) → ones (b && not c) + ones (b && c) ≡ ones b
    parts true true = refl
    parts true false = refl
    parts false c = refl

-- whether y is it, or it passes a test
abbrev pub is_or : ℕ → (ℕ → Bool) → ℕ → Bool
is_or y q x = (y == x) || q x

ones-other : (b c : Bool) → b ≡ false → ones (b || c) ≡ ones c
ones-other b c e = rw e refl

ones-here : (b c : Bool) → b ≡ true → c ≡ false → ones (b || c) ≡ 1 + ones c
ones-here b c e f = rw (e, f) refl

-- no number of a range is y
count-past : (y from n : ℕ) (q : ℕ → Bool) → y < from → count_by (is_or y q) (range_with_len from n) ≡ count_by q (range_with_len from n)
count-past y from zero q low = refl
count-past y from (suc n) q low =
    let rest = count-past y (from + 1) n q (omega arith) in
    let here = ones-other (y == from) (q from) (ne_eqb y from (λ same. omega arith)) in
    omega (arith, count-cons (is_or y q) from (range_with_len (from + 1) n), count-cons q from (range_with_len (from + 1) n), rest, here)

-- one more
pub count-one : (y from n : ℕ) (q : ℕ → Bool) → q y ≡ false → from ≤ y → y < from + n →
    count_by (is_or y q) (range_with_len from n) ≡ 1 + count_by q (range_with_len from n)
count-one y from zero q new low high = absurd (omega arith)
count-one y from (suc n) q new low high = elim (cases_eq y from) [
  | inl same ↦ (let rest = count-past y (from + 1) n q (omega arith) in
      let here = ones-here (y == from) (q from) (eq-eqb y from same) (ap q (sym same) ∙ new) in
      omega (arith, count-cons (is_or y q) from (range_with_len (from + 1) n), count-cons q from (range_with_len (from + 1) n), rest, here))
  | inr apart ↦ (let rest = count-one y (from + 1) n q new (omega arith) (omega arith) in
      let here = ones-other (y == from) (q from) (ne_eqb y from apart) in
      omega (arith, count-cons (is_or y q) from (range_with_len (from + 1) n), count-cons q from (range_with_len (from + 1) n), rest, here))
]
