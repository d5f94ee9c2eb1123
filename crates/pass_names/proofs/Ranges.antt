-- What all names of a heap tell, from the first to the last, ascends.
use Rattle.std.proofs.Common.{◌≡◌, ℕ, zero, suc, ◌+◌, ◌<◌, ◌≤◌, List, [], ◌∷◌, ◌++◌, length, map, get_or, refl, ◌∙◌, arith, Bool, inl, inr}
use Rattle.std.proofs.lemmas.Bool.{cases_Bool}
use Rattle.std.proofs.lemmas.List.{same_lists}
use Rattle.std.proofs.lemmas.List.Elements.{All-append}
use Rattle.std.proofs.lemmas.List.FromFn.{length-map-range_with_len, get_or-map-range_with_len}
use Rattle.std.specs.Prelude.{All, filter, flat_map}
use Rattle.std.specs.List.{range_with_len}
use Rattle.pass_names.proofs.Ascending.{Ascends}

module _ {X : Type 0} (key : X → ℕ) where
  ascends-append : (b : ℕ) (xs ys : List X) → All (λ x. key x ≤ b) xs → All (λ y. b ≤ key y) ys → Ascends key xs → Ascends key ys → Ascends key (xs ++ ys)
  ascends-append b [] ys low high up more = more
  ascends-append b (x ∷ xs) ys low high up more =
      let first : key x ≤ b = low 0 x (omega arith) in (
        All-append (λ y. key x ≤ key y) xs ys up.0 (λ k d l. let h = high k d l in omega (arith, first, h)),
        ascends-append b xs ys (λ k d l. low (suc k) d (omega (arith, l))) high up.1 more,
      )

  one_key : (n : ℕ) (xs : List X) → All (λ x. key x ≡ n) xs → Ascends key xs
  one_key n [] h = tt
  one_key n (x ∷ xs) h =
      let first : key x ≡ n = h 0 x (omega arith) in (
        (λ k d l. let e = h (suc k) d (omega (arith, l)) in omega (arith, first, e)),
        one_key n xs (λ k d l. h (suc k) d (omega (arith, l))),
      )

  module _ (f : ℕ → List X) (own : (m : ℕ) → All (λ x. key x ≡ m) (f m)) where
    from_low : (from n : ℕ) → All (λ x. from ≤ key x) (flat_map f (range_with_len from n))
    from_low from zero = λ k d l. absurd (omega (arith, l))
    from_low from (suc n) =
        All-append (λ x. from ≤ key x) (f from) (flat_map f (range_with_len (from + 1) n)) (λ k d l. let e = own from k d l in omega (arith, e))
        (λ k d l. let e = from_low (from + 1) n k d l in omega (arith, e))

    pub range_ascends : (from n : ℕ) → Ascends key (flat_map f (range_with_len from n))
    range_ascends from zero = tt
    range_ascends from (suc n) =
        ascends-append from (f from) (flat_map f (range_with_len (from + 1) n)) (λ k d l. let e = own from k d l in omega (arith, e))
        (λ k d l. let e = from_low (from + 1) n k d l in omega (arith, e)) (one_key from (f from) (own from)) (range_ascends (from + 1) n)

-- the numbers of a range that a test takes
picked_low : (p : ℕ → Bool) (from n : ℕ) → All (λ x. from ≤ x) (filter p (range_with_len from n))
picked_low p from zero = λ k d l. absurd (omega (arith, l))
picked_low p from (suc n) =
    let rest : All (λ x. from ≤ x) (filter p (range_with_len (from + 1) n)) = λ k d l. let e = picked_low p (from + 1) n k d l in omega (arith, e) in
    elim (cases_Bool (p from)) [
      | inl takes ↦ rw takes (first (filter p (range_with_len (from + 1) n)) rest)
      | inr leaves ↦ rw leaves rest
    ]
  where
    first : (xs : List ℕ) → All (λ x. from ≤ x) xs → All (λ x. from ≤ x) (from ∷ xs)
    first xs h zero d l = omega arith
    first xs h (suc k) d l = h k d (omega (arith, l))

pub picked_ascend : (p : ℕ → Bool) (from n : ℕ) → Ascends (λ x. x) (filter p (range_with_len from n))
picked_ascend p from zero = tt
picked_ascend p from (suc n) = elim (cases_Bool (p from)) [
  | inl takes ↦ rw takes ((λ k d l. let e = picked_low p (from + 1) n k d l in omega (arith, e)), picked_ascend p (from + 1) n)
  | inr leaves ↦ rw leaves (picked_ascend p (from + 1) n)
]

-- a list is what stands at its places
pub list_of_places : {X : Type 0} (xs : List X) (e : X) (n : ℕ) → n ≡ length xs → map (λ i. get_or xs i e) (range_with_len 0 n) ≡ xs
list_of_places xs e n is = same_lists (map (λ i. get_or xs i e) (range_with_len 0 n)) xs (length-map-range_with_len (λ i. get_or xs i e) 0 n ∙ is) (λ k d l.
    (let low : k < n = omega (arith, l, length-map-range_with_len (λ i. get_or xs i e) 0 n) in
    get_or-map-range_with_len (λ i. get_or xs i e) 0 n k k d low (omega arith) ∙ default xs k e d (omega (arith, low, is))))
  where
    default : {X : Type 0} (xs : List X) (k : ℕ) (e d : X) → k < length xs → get_or xs k e ≡ get_or xs k d
    default [] k e d l = absurd (omega (arith, l))
    default (x ∷ xs) zero e d l = refl
    default (x ∷ xs) (suc k) e d l = default xs k e d (omega (arith, l))
