-- Places that were sorted are in order.
use Rattle.std.proofs.Common.{◌≡◌, ◌≢◌, ℕ, zero, suc, ◌+◌, ◌<◌, ◌≤◌, List, [], ◌∷◌, length, map, get_or, refl, sym, ◌∙◌, subst, ap, arith, Bool, true, false, inl, inr}
use Rattle.std.proofs.lemmas.Bool.{cases_eq, cases_lt, eq-eqb, ne_eqb, lt-ltb, le-ltb}
use Rattle.std.proofs.lemmas.List.Sums.{sum_by-cons}
use Rattle.std.proofs.lemmas.List.Sorted.{sum_by-IsPermutation}
use Rattle.std.specs.Ordering.{is_lt, nat_cmp, ordering_then}
use Rattle.std.specs.Prelude.{if◌then◌else◌, All, ◌==◌, cond, filter, count_by}
use Rattle.std.specs.List.{range_with_len, sum_by}
use Rattle.std.specs.List.Sorted.{IsPermutation}
use Rattle.pass_names.specs.Places.{Precedes, AreInOrder}
use Rattle.pass_names.specs.declared.places.NotePlace.{NotePlace}
use Rattle.pass_names.proofs.Ascending.{Ascends, same_numbers}

precedes : (p q : NotePlace) → is_lt (ordering_then (nat_cmp q.table p.table) (nat_cmp q.at p.at)) ≡ false → Precedes p q
precedes p q e = elim (cases_lt p.table q.table) [
  | inl before ↦ inl before
  | inr not_before ↦ elim (cases_eq q.table p.table) [
    | inl same ↦ inr (
      sym same,
      elim (cases_lt q.at p.at) [
        | inl back ↦ absurd (back_too same back)
        | inr on ↦ on
      ],
    )
    | inr apart ↦ absurd (behind apart (omega (arith, not_before, apart)))
  ]
]
  where
    behind : q.table ≢ p.table → q.table < p.table → ⊥
    behind apart l = let e' : true ≡ false = rw (lt-ltb q.table p.table l) at e in cc

    back_too : q.table ≡ p.table → q.at < p.at → ⊥
    back_too same l =
        let e1 : is_lt (ordering_then (cond (q.table == p.table) _ _) (nat_cmp q.at p.at)) ≡ false = rw (le-ltb q.table p.table (omega (arith, same))) at e in
        let e2 = rw (eq-eqb q.table p.table same) at e1 in
        let e3 : true ≡ false = rw (lt-ltb q.at p.at l) at e2 in cc

precedes-trans : (p q r : NotePlace) → Precedes p q → Precedes q r → Precedes p r
precedes-trans p q r (inl a) (inl b) = inl (omega (arith, a, b))
precedes-trans p q r (inl a) (inr b) = inl (let e = b.0 in omega (arith, a, e))
precedes-trans p q r (inr a) (inl b) = inl (let e = a.0 in omega (arith, e, b))
precedes-trans p q r (inr a) (inr b) = inr (let e = a.0 in let f = b.0 in omega (arith, e, f), let e = a.1 in let f = b.1 in omega (arith, e, f))

all-cons : (p : NotePlace) (q : NotePlace) (ps : List NotePlace) → Precedes p q → All (Precedes q) ps → All (Precedes p) (q ∷ ps)
all-cons p q ps one rest zero d l = one
all-cons p q ps one rest (suc k) d l = precedes-trans p q (get_or ps k d) one (rest k d (omega (arith, l)))

abbrev is_below : List NotePlace → ℕ → ℕ → NotePlace → Bool
is_below ps j k d = is_lt (ordering_then (nat_cmp (get_or ps j d).table (get_or ps k d).table) (nat_cmp (get_or ps j d).at (get_or ps k d).at))

neighbours : (ps : List NotePlace) → ((k j : ℕ) (d : NotePlace) → k + 1 ≡ j → j < length ps → is_below ps j k d ≡ false) → AreInOrder ps
neighbours [] h = tt
neighbours (p ∷ []) h = (λ k d l. absurd (omega (arith, l)), tt)
neighbours (p ∷ q ∷ rest) h =
    let one : Precedes p q = precedes p q (h 0 1 p (omega arith) (omega arith)) in
    let more = neighbours (q ∷ rest) (λ k j d e l. h (suc k) (suc j) d (omega (arith, e)) (omega (arith, l))) in
    (all-cons p q rest one more.0, more)

-- what a sort ensures
pub in_order : (ps : List NotePlace) → ((k : ℕ) (d : NotePlace) → 0 ≤ k → k + 1 < length ps → is_below ps (k + 1) k d ≡ false) → AreInOrder ps
in_order ps h = neighbours ps (λ k j d e l. subst (λ (x : ℕ). is_below ps x k d ≡ false) e (h k d (omega arith) (omega (arith, e, l))))

-- ---- those of one table

abbrev pub of_table : ℕ → NotePlace → Bool
of_table n p = p.table == n

abbrev pub ats : ℕ → List NotePlace → List ℕ
ats n ps = map (λ (p : NotePlace). p.at) (filter (of_table n) ps)

ats_yes : (n : ℕ) (p : NotePlace) (ps : List NotePlace) → p.table ≡ n → ats n (p ∷ ps) ≡ p.at ∷ ats n ps
ats_yes n p ps e = rw (eq-eqb p.table n e) refl

ats_no : (n : ℕ) (p : NotePlace) (ps : List NotePlace) → p.table ≢ n → ats n (p ∷ ps) ≡ ats n ps
ats_no n p ps e = rw (ne_eqb p.table n e) refl

-- the places of one table among places in order ascend
first : (b x : ℕ) (xs : List ℕ) → b ≤ x → All (λ (y : ℕ). b ≤ y) xs → All (λ (y : ℕ). b ≤ y) (x ∷ xs)
first b x xs one more zero d l = one
first b x xs one more (suc k) d l = more k d (omega (arith, l))

after_one : (p : NotePlace) (n : ℕ) (ps : List NotePlace) → p.table ≡ n → All (Precedes p) ps → All (λ (y : ℕ). p.at ≤ y) (ats n ps)
after_one p n [] is h = λ k d l. absurd (omega (arith, l))
after_one p n (q ∷ ps) is h =
    let rest : All (λ (y : ℕ). p.at ≤ y) (ats n ps) = after_one p n ps is (λ k d l. h (suc k) d (omega (arith, l))) in
    elim (cases_eq q.table n) [
      | inl same ↦ subst (All (λ (y : ℕ). p.at ≤ y)) (sym (ats_yes n q ps same))
          (first p.at q.at (ats n ps) (elim (h 0 p (omega arith)) [ inl before ↦ absurd (omega (arith, before, is, same)) | inr on ↦ on.1 ]) rest)
      | inr apart ↦ subst (All (λ (y : ℕ). p.at ≤ y)) (sym (ats_no n q ps apart)) rest
    ]

pub ats_ascend : (n : ℕ) (ps : List NotePlace) → AreInOrder ps → Ascends (λ x. x) (ats n ps)
ats_ascend n [] h = tt
ats_ascend n (p ∷ ps) h = elim (cases_eq p.table n) [
  | inl same ↦ subst (Ascends (λ x. x)) (sym (ats_yes n p ps same)) (after_one p n ps same h.0, ats_ascend n ps h.1)
  | inr apart ↦ subst (Ascends (λ x. x)) (sym (ats_no n p ps apart)) (ats_ascend n ps h.1)
]

-- how often a place stands there
abbrev weight : ℕ → ℕ → NotePlace → ℕ
weight n m p = if p.table == n then cond (p.at == m) 1 0 else 0

counted : (n m : ℕ) (ps : List NotePlace) → count_by (λ y. y == m) (ats n ps) ≡ sum_by (weight n m) ps
counted n m [] = refl
counted n m (p ∷ ps) =
    let more = counted n m ps in
    let there = sum_by-cons (weight n m) p ps in
    elim (cases_eq p.table n) [
      | inl same ↦ (
          let yes : weight n m p ≡ cond (p.at == m) 1 0 = rw (eq-eqb p.table n same) refl in
          let here = ap (λ (xs : List ℕ). count_by (λ y. y == m) xs) (ats_yes n p ps same) ∙ sum_by-cons (λ y. cond (y == m) 1 0) p.at (ats n ps) in
          omega (arith, more, there, yes, here))
      | inr apart ↦ (
          let no : weight n m p ≡ 0 = rw (ne_eqb p.table n apart) refl in
          let here = ap (λ (xs : List ℕ). count_by (λ y. y == m) xs) (ats_no n p ps apart) in
          omega (arith, more, there, no, here))
    ]

-- places that were put in order are, for each table, the places of that table, ascending
pub same_ats : (n : ℕ) (ps qs : List NotePlace) → IsPermutation ps qs → AreInOrder qs → Ascends (λ x. x) (ats n ps) → ats n qs ≡ ats n ps
same_ats n ps qs permuted sorted up =
    same_numbers (ats n qs) (ats n ps) (ats_ascend n qs sorted) up (λ m. counted n m qs ∙ sum_by-IsPermutation (weight n m) ps qs permuted ∙ sym (counted n m ps))

-- those of one table among places that stand one after the other
module _ (f : ℕ → NotePlace) (at_is : (i : ℕ) → (f i).at ≡ i) where
  low : (n from k : ℕ) → All (λ (x : ℕ). from ≤ x) (ats n (map f (range_with_len from k)))
  low n from zero = λ k d l. absurd (omega (arith, l))
  low n from (suc k) =
      let rest : All (λ (x : ℕ). from ≤ x) (ats n (map f (range_with_len (from + 1) k))) = λ i d l. (let e = low n (from + 1) k i d l in omega (arith, e)) in
      elim (cases_eq (f from).table n) [
        | inl same ↦ subst (All (λ (x : ℕ). from ≤ x)) (sym (ats_yes n (f from) (map f (range_with_len (from + 1) k)) same))
            (first from (f from).at (ats n (map f (range_with_len (from + 1) k))) (omega (arith, at_is from)) rest)
        | inr apart ↦ subst (All (λ (x : ℕ). from ≤ x)) (sym (ats_no n (f from) (map f (range_with_len (from + 1) k)) apart)) rest
      ]

  pub listed_up : (n from k : ℕ) → Ascends (λ x. x) (ats n (map f (range_with_len from k)))
  listed_up n from zero = tt
  listed_up n from (suc k) =
      let rest = listed_up n (from + 1) k in
      elim (cases_eq (f from).table n) [
        | inl same ↦ subst (Ascends (λ x. x)) (sym (ats_yes n (f from) (map f (range_with_len (from + 1) k)) same))
            ((λ i d l. (let e = low n (from + 1) k i d l in omega (arith, e, at_is from))), rest)
        | inr apart ↦ subst (Ascends (λ x. x)) (sym (ats_no n (f from) (map f (range_with_len (from + 1) k)) apart)) rest
      ]
