-- Looking into lists that a test picks from, or that a function makes of all numbers up to a length.
use Rattle.std.proofs.Common.{◌≡◌, ℕ, zero, suc, ◌+◌, ◌<◌, ◌≤◌, List, [], ◌∷◌, ◌++◌, length, get_or, map, replicate, Bool, true, inl, inr, sym, ◌∙◌, subst, arith}
use Rattle.std.proofs.lemmas.Bool.{cases_lt, cases_eq, cases_Bool, or_cases, or_left, or_right, false≢true, eq-eqb, eqb-true}
use Rattle.std.proofs.lemmas.List.Folds.{Any-from_list_any}
use Rattle.std.proofs.lemmas.List.FromFn.{length-map-range_with_len, get_or-map-range_with_len}
use Rattle.std.proofs.lemmas.List.{get_or_past, get_or_default, get_or-replicate, length-replicate}
use Rattle.std.specs.List.{list_any, range_with_len}
use Rattle.std.specs.Prelude.{filter, flat_map, ◌||◌, ◌==◌}
use Rattle.heap_terms.specs.Heap.{zero_value}

-- what some test finds in a list, at its place
pub found_at : {X : Type 0} (p : X → Bool) (xs : List X) → list_any p xs ≡ true → (i : ℕ) × (i < length xs) × ((d : X) → p (get_or xs i d) ≡ true)
found_at p xs e =
    let found = Any-from_list_any p xs e in
    (found.0, found.2, λ d. subst (λ x. p x ≡ true) (sym (get_or_default xs found.0 d found.1 found.2 ∙ found.3)) found.4)

-- a list that a test picks has what passes, and nothing else
pub any-filter : {X : Type 0} (q p : X → Bool) (xs : List X) → list_any q (filter p xs) ≡ true → list_any (λ x. p x) xs ≡ true
any-filter q p [] e = e
any-filter q p (x ∷ xs) e = elim (cases_Bool (p x)) [
  | inl here ↦ or_left (p x) _ here
  | inr gone ↦ or_right (p x) _ (any-filter q p xs (rw gone at e))
]

-- whether a number is among those of a range that pass
pub in_filter : (p : ℕ → Bool) (from n x : ℕ) → list_any (λ y. y == x) (filter p (range_with_len from n)) ≡ true → (p x ≡ true) × (from ≤ x) × (x < from + n)
in_filter p from zero x e = absurd (false≢true e)
in_filter p from (suc n) x e = elim (cases_Bool (p from)) [
  | inl here ↦ (let e' : (from == x || list_any (λ y. y == x) (filter p (range_with_len (from + 1) n))) ≡ true = rw here at e in
      elim (or_cases (from == x) _ e') [
        | inl same ↦ (let is : from ≡ x = eqb-true from x same in (subst (λ (y : ℕ). p y ≡ true) is here, omega arith, omega arith))
        | inr rest ↦ (let r = in_filter p (from + 1) n x rest in (r.0, (let l = r.1 in omega arith), (let l = r.2 in omega arith)))
      ])
  | inr gone ↦ (let r = in_filter p (from + 1) n x (rw gone at e) in (r.0, (let l = r.1 in omega arith), (let l = r.2 in omega arith)))
]

pub filter_in : (p : ℕ → Bool) (from n x : ℕ) → p x ≡ true → from ≤ x → x < from + n → list_any (λ y. y == x) (filter p (range_with_len from n)) ≡ true
filter_in p from zero x passes low high = absurd (omega (arith, low, high))
filter_in p from (suc n) x passes low high = elim (cases_eq from x) [
  | inl same ↦ (let here : p from ≡ true = subst (λ (y : ℕ). p y ≡ true) (sym same) passes in rw here (or_left (from == x) _ (eq-eqb from x same)))
  | inr apart ↦ (let rest = filter_in p (from + 1) n x passes (omega arith) (omega arith) in
      elim (cases_Bool (p from)) [
        | inl here ↦ rw here (or_right (from == x) _ rest)
        | inr gone ↦ rw gone rest
      ])
]

-- what a function makes of each place of a list
pub made_at : {X : Type 0} (f : ℕ → X) (n i : ℕ) (d : X) → (n ≤ i → f i ≡ d) → get_or (map f (range_with_len 0 n)) i d ≡ f i
made_at f n i d past = elim (cases_lt i n) [
  | inl l ↦ get_or-map-range_with_len f 0 n i i d l (omega arith)
  | inr l ↦ get_or_past (map f (range_with_len 0 n)) i d (let same = length-map-range_with_len f 0 n in omega arith) ∙ sym (past l)
]

pub made_length : {X : Type 0} (f : ℕ → X) (n : ℕ) → length (map f (range_with_len 0 n)) ≡ n
made_length f n = length-map-range_with_len f 0 n

-- what some test finds in one of two lists joined
pub any_left : {Y : Type 0} (p : Y → Bool) (ys zs : List Y) → list_any p ys ≡ true → list_any p (ys ++ zs) ≡ true
any_left p [] zs e = absurd (false≢true e)
any_left p (y ∷ ys) zs e = elim (or_cases (p y) _ e) [
  | inl here ↦ or_left (p y) _ here
  | inr rest ↦ or_right (p y) _ (any_left p ys zs rest)
]

pub any_right : {Y : Type 0} (p : Y → Bool) (ys zs : List Y) → list_any p zs ≡ true → list_any p (ys ++ zs) ≡ true
any_right p [] zs e = e
any_right p (y ∷ ys) zs e = or_right (p y) _ (any_right p ys zs e)

-- and in one of several
pub any-flat_map : {X Y : Type 0} (p : Y → Bool) (f : X → List Y) (xs : List X) (i : ℕ) (d : X) → i < length xs → list_any p (f (get_or xs i d)) ≡ true →
    list_any p (flat_map f xs) ≡ true
any-flat_map p f [] i d l e = absurd (omega (arith, l))
any-flat_map p f (x ∷ xs) zero d l e = any_left p (f x) (flat_map f xs) e
any-flat_map p f (x ∷ xs) (suc i) d l e = any_right p (f x) (flat_map f xs) (any-flat_map p f xs i d (omega (arith, l)) e)

-- fixnums 0, and nothing past them
pub all_zero : (n i : ℕ) → get_or (replicate n zero_value) i zero_value ≡ zero_value
all_zero n i = elim (cases_lt i n) [
  | inl l ↦ get_or-replicate n i zero_value zero_value l
  | inr l ↦ get_or_past (replicate n zero_value) i zero_value (let same = length-replicate n zero_value in omega arith)
]
