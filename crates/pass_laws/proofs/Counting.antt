-- Counting names of a range: by a list that has each of them once, and by two tests that part them.
use Rattle.std.proofs.Common.{◌≡◌, ◌≢◌, ℕ, zero, suc, ◌+◌, ◌<◌, ◌≤◌, List, [], ◌∷◌, ◌++◌, length, get_or, Bool, true, false, nat_eq, inl, inr, refl, sym, ◌∙◌, ap, cond, arith, length-append}
use Rattle.std.proofs.lemmas.Bool.{cases_eq, cases_lt, cases_Bool, eq-eqb, ne_eqb, eqb-true, false≢true}
use Rattle.std.proofs.lemmas.List.{get_or_append_left}
use Rattle.std.proofs.lemmas.List.Elements.{All-head, All-tail}
use Rattle.std.proofs.lemmas.List.Folds.{list_any_at}
use Rattle.std.proofs.lemmas.List.FromFn.{length-range_with_len}
use Rattle.std.proofs.lemmas.List.Sums.{count_by-le-length, sum_by-cons}
use Rattle.std.specs.List.{list_any, range_with_len}
use Rattle.std.specs.Prelude.{All, AllPairs, ◌==◌, ◌&&◌, ◌||◌, not, count_by}
use Rattle.pass_laws.proofs.Lookups.{found_at}

-- what one element counts
abbrev ones : Bool → ℕ
ones b = cond {A = ℕ} b 1 0

pub count-cons : {X : Type 0} (p : X → Bool) (x : X) (xs : List X) → count_by p (x ∷ xs) ≡ cond {A = ℕ} (p x) 1 0 + count_by p xs
count-cons p x xs = sum_by-cons (λ y. cond {A = ℕ} (p y) 1 0) x xs

-- tests that agree count alike
pub count-same : {X : Type 0} (p q : X → Bool) (xs : List X) → ((x : X) → p x ≡ q x) → count_by p xs ≡ count_by q xs
count-same p q [] same = refl
count-same p q (x ∷ xs) same = (let rest = count-same p q xs same in let here = ap ones (same x) in
    omega (arith, count-cons p x xs, count-cons q x xs, rest, here))

-- those that pass a second test, and those that do not
pub count-parts : {X : Type 0} (p q : X → Bool) (xs : List X) → count_by (λ x. p x && not (q x)) xs + count_by (λ x. p x && q x) xs ≡ count_by p xs
count-parts p q [] = refl
count-parts p q (x ∷ xs) =
    (let rest = count-parts p q xs in let here = parts (p x) (q x) in
    omega (arith, count-cons (λ x. p x && not (q x)) x xs, count-cons (λ x. p x && q x) x xs, count-cons p x xs, rest, here))
  where
    parts : (b c : Bool) → ones (b && not c) + ones (b && c) ≡ ones b
    parts true true = refl
    parts true false = refl
    parts false c = refl

-- whether y is it, or it passes a test
abbrev is_or : ℕ → (ℕ → Bool) → ℕ → Bool
is_or y q x = (y == x) || q x

ones-other : (b c : Bool) → b ≡ false → ones (b || c) ≡ ones c
ones-other b c e = rw e refl

ones-here : (b c : Bool) → b ≡ true → c ≡ false → ones (b || c) ≡ 1 + ones c
ones-here b c e f = rw (e, f) refl

-- no number of a range is y
count-none : (y from n : ℕ) (q : ℕ → Bool) → y < from → count_by (is_or y q) (range_with_len from n) ≡ count_by q (range_with_len from n)
count-none y from zero q low = refl
count-none y from (suc n) q low =
    let rest = count-none y (from + 1) n q (omega arith) in
    let here = ones-other (y == from) (q from) (ne_eqb y from (λ same. omega arith)) in
    omega (arith, count-cons (is_or y q) from (range_with_len (from + 1) n), count-cons q from (range_with_len (from + 1) n), rest, here)

-- one more
count-one : (y from n : ℕ) (q : ℕ → Bool) → q y ≡ false → from ≤ y → y < from + n →
    count_by (is_or y q) (range_with_len from n) ≡ 1 + count_by q (range_with_len from n)
count-one y from zero q new low high = absurd (omega arith)
count-one y from (suc n) q new low high = elim (cases_eq y from) [
  | inl same ↦ (let rest = count-none y (from + 1) n q (omega arith) in
      let here = ones-here (y == from) (q from) (eq-eqb y from same) (ap q (sym same) ∙ new) in
      omega (arith, count-cons (is_or y q) from (range_with_len (from + 1) n), count-cons q from (range_with_len (from + 1) n), rest, here))
  | inr apart ↦ (let rest = count-one y (from + 1) n q new (omega arith) (omega arith) in
      let here = ones-other (y == from) (q from) (ne_eqb y from apart) in
      omega (arith, count-cons (is_or y q) from (range_with_len (from + 1) n), count-cons q from (range_with_len (from + 1) n), rest, here))
]

pub count-no : (xs : List ℕ) → count_by (λ (x : ℕ). false) xs ≡ 0
count-no [] = refl
count-no (x ∷ xs) = omega (arith, count-cons (λ (x : ℕ). false) x xs, count-no xs)

-- a list that names each once counts the numbers that it names
pub count-listed : (ns : List ℕ) (n : ℕ) → AllPairs (λ (x y : ℕ). x ≢ y) ns → All (λ x. x < n) ns →
    count_by (λ x. list_any (λ y. y == x) ns) (range_with_len 0 n) ≡ length ns
count-listed [] n once below = count-no (range_with_len 0 n)
count-listed (y ∷ ys) n once below =
    let rest = count-listed ys n (λ i j d l m. once (suc i) (suc j) d (omega arith) (omega arith)) (All-tail (λ x. x < n) y ys below) in
    let inside = All-head (λ x. x < n) y ys below in
    let one = count-one y 0 n (λ x. list_any (λ z. z == x) ys) unlisted (omega arith) (omega arith) in
    omega (arith, one, rest)
  where
    unlisted : list_any (λ z. z == y) ys ≡ false
    unlisted = elim (cases_Bool (list_any (λ z. z == y) ys)) [
      | inr none ↦ none
      | inl some ↦ (let found = found_at (λ z. z == y) ys some in
          absurd (once 0 (suc found.0) 0 (omega arith) (let l = found.1 in omega arith) (sym (eqb-true (get_or ys found.0 0) y (found.2 0)))))
    ]

-- one test lets through no more than another that passes what it passes
pub count-most : {X : Type 0} (p q : X → Bool) (xs : List X) → ((x : X) → p x ≡ true → q x ≡ true) → count_by p xs ≤ count_by q xs
count-most p q [] more = omega arith
count-most p q (x ∷ xs) more =
    let rest = count-most p q xs more in
    let here : ones (p x) ≤ ones (q x) = elim (cases_Bool (p x)) [
      | inl in_it ↦ (let both = more x in_it in rw (in_it, both) (omega arith))
      | inr out ↦ rw out (omega arith)
    ] in
    omega (arith, count-cons p x xs, count-cons q x xs, rest, here)

-- so a list that names each once is no longer than what passes a test, where each of it does
pub listed-few : (ns : List ℕ) (n : ℕ) (q : ℕ → Bool) → AllPairs (λ (x y : ℕ). x ≢ y) ns → All (λ x. x < n) ns → All (λ x. q x ≡ true) ns → length ns ≤ count_by q (range_with_len 0 n)
listed-few ns n q once below all =
    let is = count-listed ns n once below in
    let most = count-most (λ x. list_any (λ y. y == x) ns) q (range_with_len 0 n)
    (λ x e. (let found = found_at (λ y. y == x) ns e in ap q (sym (eqb-true (get_or ns found.0 0) x (found.2 0))) ∙ all found.0 0 found.1)) in
    omega (arith, is, most)

-- a number that a list does not have, in front of it or behind it
unlisted-at : (x : ℕ) (xs : List ℕ) → list_any (nat_eq x) xs ≡ false → (j d : ℕ) → j < length xs → x ≢ get_or xs j d
unlisted-at x xs none j d l same = false≢true (sym none ∙ list_any_at (nat_eq x) xs j d l (eq-eqb x (get_or xs j d) same))

pub distinct-cons : (x : ℕ) (xs : List ℕ) → list_any (nat_eq x) xs ≡ false → AllPairs (λ (x y : ℕ). x ≢ y) xs → AllPairs (λ (x y : ℕ). x ≢ y) (x ∷ xs)
distinct-cons x xs none once = go
  where
    go : AllPairs (λ (x y : ℕ). x ≢ y) (x ∷ xs)
    go i zero d l m = absurd (omega (arith, l))
    go zero (suc j) d l m = unlisted-at x xs none j d (omega arith)
    go (suc i) (suc j) d l m = once i j d (omega arith) (omega arith)

at-end : (xs : List ℕ) (x d : ℕ) → get_or (xs ++ x ∷ []) (length xs) d ≡ x
at-end [] x d = refl
at-end (y ∷ ys) x d = at-end ys x d

pub distinct-behind : (x : ℕ) (xs : List ℕ) → list_any (nat_eq x) xs ≡ false → AllPairs (λ (x y : ℕ). x ≢ y) xs → AllPairs (λ (x y : ℕ). x ≢ y) (xs ++ x ∷ [])
distinct-behind x xs none once i j d l m =
    let long = length-append xs (x ∷ []) in
    let first = get_or_append_left xs (x ∷ []) d i (omega arith) in
    elim (cases_lt j (length xs)) [
      | inl inside ↦ (let second = get_or_append_left xs (x ∷ []) d j inside in λ same. once i j d l inside (sym first ∙ same ∙ second))
      | inr past ↦ (let last : j ≡ length xs = omega arith in
          λ same. unlisted-at x xs none i d (omega arith) (sym (ap (λ (k : ℕ). get_or (xs ++ x ∷ []) k d) last ∙ at-end xs x d) ∙ sym same ∙ first))
    ]

-- numbers below n, each once, are at most n
pub distinct-few : (xs : List ℕ) (n : ℕ) → AllPairs (λ (x y : ℕ). x ≢ y) xs → All (λ x. x < n) xs → length xs ≤ n
distinct-few xs n once below =
    let few = listed-few xs n (λ x. true) once below (λ i d l. refl) in
    let most = count_by-le-length (λ (x : ℕ). true) (range_with_len 0 n) in
    let long = length-range_with_len 0 n in
    omega arith
