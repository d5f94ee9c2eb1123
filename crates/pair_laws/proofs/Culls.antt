-- A pass culls no more pairs than the tables have.
use Rattle.std.proofs.Common.{◌≡◌, ◌≢◌, ℕ, zero, suc, ◌+◌, ◌<◌, ◌≤◌, List, [], ◌∷◌, ◌++◌, length, map, get_or, refl, sym, ◌∙◌, subst, ap, arith, Option, Some, None, Bool, true, false, inl, inr}
use Rattle.std.proofs.lemmas.Bool.{cases_Bool, cases_eq, eq-eqb, ne_eqb}
use Rattle.std.proofs.lemmas.List.{length-map}
use Rattle.std.proofs.lemmas.List.Concat.{length-flat_map}
use Rattle.std.proofs.lemmas.List.Sums.{sum_by-cons}
use Rattle.std.specs.Prelude.{All, AllPairs, ◌==◌, cond, filter, flat_map, if◌then◌else◌, not}
use Rattle.std.specs.List.{range_with_len, sum_by}
use Rattle.heap_terms.specs.declared.cells.Value.{Value}
use Rattle.heap_terms.specs.declared.events.Cull.{Cull}
use Rattle.heap_terms.specs.Heap.{NamedHeap, object_at}
use Rattle.heap_terms.specs.Objects.{Object, Contents, ConsOf, VectorOf, InstanceOf, ClosureOf, WordsOf, WeakTo, TableOf}
use Rattle.heap_terms.specs.Survival.{culled_from, culls_in, is_kept}
use Rattle.pair_laws.specs.Counts.{pair_count, pairs_in, pairs_of}
use Rattle.pair_laws.proofs.Counting.{filter_few}

-- ---- sums over some numbers and over all

-- the same numbers, but 0 at one
abbrev without : (ℕ → ℕ) → ℕ → ℕ → ℕ
without f t n = if n == t then 0 else f n

without_other : (f : ℕ → ℕ) (t n : ℕ) → n ≢ t → without f t n ≡ f n
without_other f t n apart = rw (ne_eqb n t apart) refl

without_same : (f : ℕ → ℕ) (t : ℕ) → without f t t ≡ 0
without_same f t = rw (eq-eqb t t refl) refl

all_apart : (f : ℕ → ℕ) (t : ℕ) (xs : List ℕ) → All (λ x. t ≢ x) xs → sum_by (without f t) xs ≡ sum_by f xs
all_apart f t [] h = refl
all_apart f t (x ∷ xs) h =
    let rest = all_apart f t xs (λ k d l. h (suc k) d (omega (arith, l))) in
    let one = without_other f t x (λ e. h 0 x (omega arith) (sym e)) in
    omega (arith, rest, one, sum_by-cons (without f t) x xs, sum_by-cons f x xs)

apart_cons : (t x : ℕ) (xs : List ℕ) → t ≢ x → All (λ y. t ≢ y) xs → All (λ y. t ≢ y) (x ∷ xs)
apart_cons t x xs one rest zero d m = one
apart_cons t x xs one rest (suc k) d m = rest k d (omega (arith, m))

later_apart : (t from n : ℕ) → t < from → All (λ x. t ≢ x) (range_with_len from n)
later_apart t from zero l = λ k d m. absurd (omega (arith, m))
later_apart t from (suc n) l = apart_cons t from (range_with_len (from + 1) n) (λ e. omega (arith, l, e)) (later_apart t (from + 1) n (omega (arith, l)))

one_out : (f : ℕ → ℕ) (t from n : ℕ) → from ≤ t → t < from + n → sum_by f (range_with_len from n) ≡ sum_by (without f t) (range_with_len from n) + f t
one_out f t from zero low high = absurd (omega (arith, low, high))
one_out f t from (suc n) low high =
    let all = sum_by-cons f from (range_with_len (from + 1) n) in
    let but = sum_by-cons (without f t) from (range_with_len (from + 1) n) in
    elim (cases_eq from t) [
      | inl same ↦ (
          let none : without f t from ≡ 0 = subst (λ (x : ℕ). without f t x ≡ 0) (sym same) (without_same f t) in
          let rest = all_apart f t (range_with_len (from + 1) n) (later_apart t (from + 1) n (omega (arith, same))) in
          let here : f from ≡ f t = ap f same in
          omega (arith, all, but, none, rest, here))
      | inr apart ↦ (
          let rest = one_out f t (from + 1) n (omega (arith, low, apart)) (omega (arith, high)) in
          let here = without_other f t from apart in
          omega (arith, all, but, rest, here))
    ]

some_few : (f : ℕ → ℕ) (n : ℕ) (xs : List ℕ) → AllPairs (λ (x y : ℕ). x ≢ y) xs → All (λ x. x < n) xs → sum_by f xs ≤ sum_by f (range_with_len 0 n)
some_few f n [] once below = omega arith
some_few f n (x ∷ xs) once below =
    let rest = some_few (without f x) n xs (λ i j d l m. once (suc i) (suc j) d (omega (arith, l)) (omega (arith, m))) (λ k d l. below (suc k) d (omega (arith, l))) in
    let same = all_apart f x xs (λ k d l. once 0 (suc k) d (omega arith) (omega (arith, l))) in
    let inside : x < n = below 0 x (omega arith) in
    let all = one_out f x 0 n (omega arith) (omega (arith, inside)) in
    omega (arith, rest, same, all, sum_by-cons f x xs)

-- ---- culls

from_few : (live : ℕ → Bool) (name : ℕ) (k : Contents) → length (culled_from live name k) ≤ pairs_of k
from_few live name (ConsOf a b) = omega arith
from_few live name (VectorOf vs) = omega arith
from_few live name (InstanceOf vs) = omega arith
from_few live name (ClosureOf vs) = omega arith
from_few live name (WordsOf ws) = omega arith
from_few live name (WeakTo v) = omega arith
from_few live name (TableOf w b pairs) =
    let dead = filter (λ (pair : Value × Value). not (is_kept live w pair)) pairs in
    let cull : Value × Value → Cull = λ pair. record { table = name; key = pair.0; value = pair.1 } in
    let same : length (culled_from live name (TableOf w b pairs)) ≡ length dead = length-map dead cull in
    let few = filter_few (λ (pair : Value × Value). not (is_kept live w pair)) pairs in
    omega (arith, same, few)

in_few : (live : ℕ → Bool) (name : ℕ) (q : Option Object) → length (culls_in live name q) ≤ pairs_in q
in_few live name None = omega arith
in_few live name (Some o) = elim (cases_Bool (live name)) [
  | inl lives ↦ rw lives (from_few live name o.contents)
  | inr dead ↦ rw dead (omega arith)
]

by_places : (h : ℕ → ℕ) (xs : List (Option Object)) (from : ℕ) → ((k j : ℕ) → from + k ≡ j → k < length xs → h j ≤ pairs_in (get_or xs k None)) →
    sum_by h (range_with_len from (length xs)) ≤ sum_by pairs_in xs
by_places h [] from each = omega arith
by_places h (x ∷ xs) from each =
    let rest = by_places h xs (from + 1) (λ k j e l. each (suc k) j (omega (arith, e)) (omega (arith, l))) in
    let one = each 0 from (omega arith) (omega arith) in
    omega (arith, rest, one, sum_by-cons h from (range_with_len (from + 1) (length xs)), sum_by-cons pairs_in x xs)

pub culled_few : (a : NamedHeap) (live : ℕ → Bool) (xs : List ℕ) → AllPairs (λ (x y : ℕ). x ≢ y) xs → All (λ x. x < length a.objects) xs →
    length (flat_map (λ name. culls_in live name (object_at a.objects name)) xs) ≤ pair_count a
culled_few a live xs once below =
    let f : ℕ → List Cull = λ name. culls_in live name (object_at a.objects name) in
    let long = length-flat_map f xs in
    let some = some_few (λ name. length (f name)) (length a.objects) xs once below in
    let all = by_places (λ name. length (f name)) a.objects 0 (λ k j e l. subst (λ (i : ℕ). length (f i) ≤ pairs_in (get_or a.objects k None)) (omega (arith, e)) (in_few live k (object_at a.objects k))) in
    omega (arith, long, some, all)
