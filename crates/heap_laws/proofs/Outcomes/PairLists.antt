-- Lists of pairs: what a new pair and a pair less leave of values that are living and of keys that are distinct.
use Rattle.std.proofs.Common.{◌≡◌, ◌≢◌, ℕ, suc, ◌+◌, ◌≤◌, List, [], ◌∷◌, length, map, Option, Some, Bool, true, inl, inr, refl, sym, ◌∙◌, subst, ap, arith}
use Rattle.std.proofs.lemmas.Bool.{cases_Bool, or_cases, ltb-true, eqb-true, eq-eqb, false≢true}
use Rattle.std.proofs.lemmas.Bool.Decides.{Decides-int_eq}
use Rattle.std.proofs.lemmas.List.Elements.{All-nil, All-cons, All-head, All-tail}
use Rattle.std.proofs.lemmas.List.Kept.{AllPairs-cons, AllPairs-filter}
use Rattle.std.specs.List.{All, filter}
use Rattle.std.specs.Prelude.{◌||◌, not, nat_lt}
use Rattle.heap_terms.specs.declared.cells.Value.{Value}
use Rattle.heap_terms.specs.declared.cells.Value.TheVariants as values
use Rattle.heap_terms.specs.Living.{IsLiving, AreLiving, AreDistinctKeys}
use Rattle.heap_terms.specs.Objects.{Object}
use Rattle.heap_terms.specs.Pairs.{same_value, is_pair_of, has_key, value_at, with_pair, without_key}
use Rattle.heap_laws.proofs.WellFormed.LivingValues.{AreLiving-nil, AreLiving-cons}

-- two values are the same just where the test says so
pub same_value-true : (x y : Value) → same_value x y ≡ true → x ≡ y
same_value-true (values.Fix n) (values.Fix m) e = ap (λ (k : _). values.Fix k) ((Decides-int_eq n m).0 e)
same_value-true (values.Fix n) values.Nil e = cc
same_value-true (values.Fix n) values.Unbound e = cc
same_value-true (values.Fix n) (values.Ref y) e = cc
same_value-true values.Nil (values.Fix m) e = cc
same_value-true values.Nil values.Nil e = refl
same_value-true values.Nil values.Unbound e = cc
same_value-true values.Nil (values.Ref y) e = cc
same_value-true values.Unbound (values.Fix m) e = cc
same_value-true values.Unbound values.Nil e = cc
same_value-true values.Unbound values.Unbound e = refl
same_value-true values.Unbound (values.Ref y) e = cc
same_value-true (values.Ref x) (values.Fix m) e = cc
same_value-true (values.Ref x) values.Nil e = cc
same_value-true (values.Ref x) values.Unbound e = cc
same_value-true (values.Ref x) (values.Ref y) e = ap (λ (k : ℕ). values.Ref k) (eqb-true x y e)

pub same_value-self : (x : Value) → same_value x x ≡ true
same_value-self (values.Fix n) = (Decides-int_eq n n).1 refl
same_value-self values.Nil = refl
same_value-self values.Unbound = refl
same_value-self (values.Ref x) = eq-eqb x x refl

-- a pair has living sides
abbrev pub IsLivingPair : List (Option Object) → Value × Value → Type 0
IsLivingPair objects pair = IsLiving objects pair.0 × IsLiving objects pair.1

abbrev pub AreLivingPairs : List (Option Object) → List (Value × Value) → Type 0
AreLivingPairs objects pairs = AreLiving objects (map (λ pair. pair.0) pairs) × AreLiving objects (map (λ pair. pair.1) pairs)

pub pairs_all : (objects : List (Option Object)) (pairs : List (Value × Value)) → AreLivingPairs objects pairs → All (IsLivingPair objects) pairs
pairs_all objects [] h = All-nil (IsLivingPair objects)
pairs_all objects (pair ∷ rest) h =
    All-cons (IsLivingPair objects) pair rest (h.0 0, h.1 0) (pairs_all objects rest ((λ i. h.0 (suc i)), (λ i. h.1 (suc i))))

pub all_pairs : (objects : List (Option Object)) (pairs : List (Value × Value)) → All (IsLivingPair objects) pairs → AreLivingPairs objects pairs
all_pairs objects [] h = (AreLiving-nil objects, AreLiving-nil objects)
all_pairs objects (pair ∷ rest) h =
    let first = All-head (IsLivingPair objects) pair rest h in
    let others = all_pairs objects rest (All-tail (IsLivingPair objects) pair rest h) in
    (AreLiving-cons objects pair.0 (map (λ pair. pair.0) rest) first.0 others.0, AreLiving-cons objects pair.1 (map (λ pair. pair.1) rest) first.1 others.1)

-- a fact of each pair holds after a pair was replaced or added
pub All-with_pair : (P : Value × Value → Type 0) (pairs : List (Value × Value)) (k v : Value) → All P pairs → P (k, v) → All P (with_pair pairs k v)
All-with_pair P [] k v h new = All-cons P (k, v) [] new (All-nil P)
All-with_pair P (pair ∷ rest) k v h new = elim (cases_Bool (is_pair_of k pair)) [
  | inl same ↦ rw same (All-cons P (k, v) rest new (All-tail P pair rest h))
  | inr other ↦ rw other (All-cons P pair (with_pair rest k v) (All-head P pair rest h) (All-with_pair P rest k v (All-tail P pair rest h) new))
]

-- the value of a key is living
pub value_at-living : (objects : List (Option Object)) (pairs : List (Value × Value)) (k v : Value) → All (IsLivingPair objects) pairs → value_at pairs k ≡ Some v → IsLiving objects v
value_at-living objects [] k v h e = cc
value_at-living objects (pair ∷ rest) k v h e = elim (cases_Bool (is_pair_of k pair)) [
  | inl same ↦ (
      let found : Some pair.1 ≡ Some v = rw same at e in
      let is : pair.1 ≡ v = cc in
      subst (λ (z : Value). IsLiving objects z) is (All-head (IsLivingPair objects) pair rest h).1)
  | inr other ↦ value_at-living objects rest k v (All-tail (IsLivingPair objects) pair rest h) (rw other at e)
]

-- the keys of a list of pairs differ from that of the first
abbrev DiffersFrom : Value × Value → Value × Value → Type 0
DiffersFrom x y = x.0 ≢ y.0

distinct_first : (pair : Value × Value) (rest : List (Value × Value)) → AreDistinctKeys (pair ∷ rest) → All (DiffersFrom pair) rest
distinct_first pair rest h = λ k d l. h 0 (suc k) d (omega arith) (omega arith)

distinct_rest : (pair : Value × Value) (rest : List (Value × Value)) → AreDistinctKeys (pair ∷ rest) → AreDistinctKeys rest
distinct_rest pair rest h = λ i j d below inside. h (suc i) (suc j) d (omega arith) (omega arith)

pub with_pair-distinct : (pairs : List (Value × Value)) (k v : Value) → AreDistinctKeys pairs → AreDistinctKeys (with_pair pairs k v)
with_pair-distinct [] k v h = AllPairs-cons DiffersFrom (k, v) [] (All-nil (DiffersFrom (k, v))) (λ i j d below inside. absurd (omega arith))
with_pair-distinct (pair ∷ rest) k v h = elim (cases_Bool (is_pair_of k pair)) [
  | inl same ↦ (
      let is : pair.0 ≡ k = same_value-true pair.0 k same in
      let first = distinct_first pair rest h in
      rw same (AllPairs-cons DiffersFrom (k, v) rest (λ i d l e. first i d l (is ∙ e)) (distinct_rest pair rest h)))
  | inr other ↦ (
      let differs : pair.0 ≢ k = λ is. false≢true (sym other ∙ ap (λ (x : Value). same_value x k) is ∙ same_value-self k) in
      rw other (AllPairs-cons DiffersFrom pair (with_pair rest k v)
      (All-with_pair (DiffersFrom pair) rest k v (distinct_first pair rest h) differs)
      (with_pair-distinct rest k v (distinct_rest pair rest h))))
]

pub without_key-distinct : (pairs : List (Value × Value)) (k : Value) → AreDistinctKeys pairs → AreDistinctKeys (without_key pairs k)
without_key-distinct pairs k h = AllPairs-filter DiffersFrom (λ pair. not (is_pair_of k pair)) pairs h

-- how many pairs there are then
with_pair-more : (pairs : List (Value × Value)) (k v : Value) → length (with_pair pairs k v) ≤ length pairs + 1
with_pair-more [] k v = omega arith
with_pair-more (pair ∷ rest) k v = elim (cases_Bool (is_pair_of k pair)) [
  | inl same ↦ rw same (omega arith)
  | inr other ↦ (let more = with_pair-more rest k v in rw other (omega arith))
]

with_pair-same : (pairs : List (Value × Value)) (k v : Value) → has_key pairs k ≡ true → length (with_pair pairs k v) ≤ length pairs
with_pair-same [] k v e = cc
with_pair-same (pair ∷ rest) k v e = elim (cases_Bool (is_pair_of k pair)) [
  | inl same ↦ rw same (omega arith)
  | inr other ↦ (let more = with_pair-same rest k v (rw other at e) in rw other (omega arith))
]

pub with_pair-most : (pairs : List (Value × Value)) (k v : Value) (b : ℕ) → length pairs ≤ b → (has_key pairs k || nat_lt (length pairs) b) ≡ true →
    length (with_pair pairs k v) ≤ b
with_pair-most pairs k v b most room = elim (or_cases (has_key pairs k) (nat_lt (length pairs) b) room) [
  | inl there ↦ (let same = with_pair-same pairs k v there in omega arith)
  | inr below ↦ (let l = ltb-true (length pairs) b below in let more = with_pair-more pairs k v in omega arith)
]

pub filter_most : {X : Type 0} (p : X → Bool) (xs : List X) → length (filter p xs) ≤ length xs
filter_most p [] = omega arith
filter_most p (x ∷ xs) = elim (cases_Bool (p x)) [
  | inl e ↦ (let rest = filter_most p xs in rw e (omega arith))
  | inr e ↦ (let rest = filter_most p xs in rw e (omega arith))
]
