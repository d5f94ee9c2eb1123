-- Pairs of values beside pairs of their words: where the pair of a key stands, and what a change there makes of the pairs.
use Rattle.std.proofs.Common.{◌≡◌, ◌≢◌, ℕ, zero, suc, ◌+◌, ◌<◌, List, [], ◌∷◌, ◌++◌, length, take, drop, set, Some, None, true, false, refl, ap, arith}
use Rattle.heap_terms.specs.declared.cells.Value.{Value}
use Rattle.heap_terms.specs.Pairs.{is_pair_of, has_key, value_at, with_pair, without_key}
use Rattle.lisp_heap.proofs.TableSlots.{pair_of}

-- a key stands in one pair alone, at this number
pub record IsOnlyAt (pairs : List (Value × Value)) (k : Value) (slot : ℕ) : Type 0 where
  pub low : slot < length pairs
  pub here : is_pair_of k (pair_of pairs slot) ≡ true
  pub others : (i : ℕ) → i < length pairs → i ≢ slot → is_pair_of k (pair_of pairs i) ≡ false

-- a key stands in no pair
abbrev pub IsNowhere : List (Value × Value) → Value → Type 0
IsNowhere pairs k = (i : ℕ) → i < length pairs → is_pair_of k (pair_of pairs i) ≡ false

later : (pair : Value × Value) (rest : List (Value × Value)) (k : Value) (slot : ℕ) → IsOnlyAt (pair ∷ rest) k (suc slot) → IsOnlyAt rest k slot
later pair rest k slot h = record {
  low = omega (arith, h.low);
  here = h.here;
  others = λ i l n. h.others (suc i) (omega (arith, l)) (λ e. n (omega (arith, e)));
}

behind_first : (pair : Value × Value) (rest : List (Value × Value)) (k : Value) → IsOnlyAt (pair ∷ rest) k zero → IsNowhere rest k
behind_first pair rest k h = λ i l. h.others (suc i) (omega (arith, l)) (λ e. absurd (omega (arith, e)))

first_is : (pair : Value × Value) (rest : List (Value × Value)) (k : Value) (slot : ℕ) → IsOnlyAt (pair ∷ rest) k (suc slot) → is_pair_of k pair ≡ false
first_is pair rest k slot h = h.others zero (omega arith) (λ e. absurd (omega (arith, e)))

rest_nowhere : (pair : Value × Value) (rest : List (Value × Value)) (k : Value) → IsNowhere (pair ∷ rest) k → IsNowhere rest k
rest_nowhere pair rest k h = λ i l. h (suc i) (omega (arith, l))

-- ---- where no pair has the key

pub no_key : (pairs : List (Value × Value)) (k : Value) → IsNowhere pairs k → has_key pairs k ≡ false
no_key [] k h = refl
no_key (pair ∷ rest) k h = rw (h zero (omega arith)) (no_key rest k (rest_nowhere pair rest k h))

pub no_value : (pairs : List (Value × Value)) (k : Value) → IsNowhere pairs k → value_at pairs k ≡ None
no_value [] k h = refl
no_value (pair ∷ rest) k h = rw (h zero (omega arith)) (no_value rest k (rest_nowhere pair rest k h))

pub added_last : (pairs : List (Value × Value)) (k v : Value) → IsNowhere pairs k → with_pair pairs k v ≡ pairs ++ (k, v) ∷ []
added_last [] k v h = refl
added_last (pair ∷ rest) k v h = rw (h zero (omega arith)) (ap (λ (ps : List (Value × Value)). pair ∷ ps) (added_last rest k v (rest_nowhere pair rest k h)))

pub none_removed : (pairs : List (Value × Value)) (k : Value) → IsNowhere pairs k → without_key pairs k ≡ pairs
none_removed [] k h = refl
none_removed (pair ∷ rest) k h = rw (h zero (omega arith)) (ap (λ (ps : List (Value × Value)). pair ∷ ps) (none_removed rest k (rest_nowhere pair rest k h)))

-- ---- where one has it

pub the_key : (pairs : List (Value × Value)) (k : Value) (slot : ℕ) → IsOnlyAt pairs k slot → has_key pairs k ≡ true
the_key [] k slot h = absurd (omega (arith, h.low))
the_key (pair ∷ rest) k zero h = rw (h.here) refl
the_key (pair ∷ rest) k (suc slot) h = rw (first_is pair rest k slot h) (the_key rest k slot (later pair rest k slot h))

pub the_value : (pairs : List (Value × Value)) (k : Value) (slot : ℕ) → IsOnlyAt pairs k slot → value_at pairs k ≡ Some (pair_of pairs slot).1
the_value [] k slot h = absurd (omega (arith, h.low))
the_value (pair ∷ rest) k zero h = rw (h.here) refl
the_value (pair ∷ rest) k (suc slot) h = rw (first_is pair rest k slot h) (the_value rest k slot (later pair rest k slot h))

pub replaced_there : (pairs : List (Value × Value)) (k v : Value) (slot : ℕ) → IsOnlyAt pairs k slot → with_pair pairs k v ≡ set pairs slot (k, v)
replaced_there [] k v slot h = absurd (omega (arith, h.low))
replaced_there (pair ∷ rest) k v zero h = rw (h.here) refl
replaced_there (pair ∷ rest) k v (suc slot) h =
    rw (first_is pair rest k slot h) (ap (λ (ps : List (Value × Value)). pair ∷ ps) (replaced_there rest k v slot (later pair rest k slot h)))

pub removed_there : (pairs : List (Value × Value)) (k : Value) (slot : ℕ) → IsOnlyAt pairs k slot → without_key pairs k ≡ take slot pairs ++ drop (slot + 1) pairs
removed_there [] k slot h = absurd (omega (arith, h.low))
removed_there (pair ∷ rest) k zero h = rw (h.here) (none_removed rest k (behind_first pair rest k h))
removed_there (pair ∷ rest) k (suc slot) h =
    let up : suc slot + 1 ≡ suc (slot + 1) = omega arith in
    rw (first_is pair rest k slot h, up) (ap (λ (ps : List (Value × Value)). pair ∷ ps) (removed_there rest k slot (later pair rest k slot h)))
