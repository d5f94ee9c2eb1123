-- Which slots of an object are fields: the two words of a cons, and the words behind the header of a vector, an instance or
-- a closure; and what a field has of the object that holds it: its value is living, and live where the object's are kept.
use Rattle.std.proofs.Common.{◌≡◌, ◌≢◌, ℕ, zero, suc, ◌+◌, ◌-◌, ◌*◌, ◌<◌, ◌≤◌, List, [], ◌∷◌, ◌++◌, length, map, replicate, Option, Some, None, Bool, true, refl, subst, arith}
use Rattle.std.proofs.lemmas.Option.{get_or_from_slice_get, slice_get_within}
use Rattle.std.specs.Prelude.{flat_map, slice_get, slice_index_or, pos}
use Rattle.heap_terms.specs.declared.cells.Value.{Value}
use Rattle.heap_terms.specs.declared.cells.Value.TheVariants.{Unbound}
use Rattle.heap_terms.specs.declared.kinds.Kind.{Kind}
use Rattle.heap_terms.specs.declared.kinds.Kind.TheVariants as kinds
use Rattle.heap_terms.specs.declared.kinds.Weakness.{Weakness}
use Rattle.heap_terms.specs.Heap.{zero_value}
use Rattle.heap_terms.specs.Layout.{size_with_header, header_of, fixnum_word, weakness_number}
use Rattle.heap_terms.specs.Live.{is_live, Keeps}
use Rattle.heap_terms.specs.Living.{IsLiving, HoldsLiving}
use Rattle.heap_terms.specs.Objects.{Object, Contents, ConsOf, VectorOf, InstanceOf, ClosureOf, WordsOf, WeakTo, TableOf, kind_of, payload_of}
use Rattle.heap_terms.specs.Slots.{Slot, Raw, Val, Side, Kept, under_header, pair_slots, slots, slot_at}
use Rattle.scavenge.specs.Fields.{fields_behind}

-- no slot of a list is a field
HasNone : List Slot → Type 0
HasNone xs = (i : ℕ) (v : Value) → slice_get xs i ≡ Some (Val v) → ⊥

none_nil : HasNone []
unfolding HasNone
none_nil i v e = cc

none_cons : (x : Slot) (xs : List Slot) → ((v : Value) → x ≡ Val v → ⊥) → HasNone xs → HasNone (x ∷ xs)
unfolding HasNone
none_cons x xs first rest zero v e = first v (let same : Some x ≡ Some (Val v) = e in cc)
none_cons x xs first rest (suc i) v e = rest i v e

none_append : (xs ys : List Slot) → HasNone xs → HasNone ys → HasNone (xs ++ ys)
unfolding HasNone
none_append [] ys h k i v e = k i v e
none_append (x ∷ xs) ys h k zero v e = h 0 v e
none_append (x ∷ xs) ys h k (suc i) v e = none_append xs ys (λ j u f. h (suc j) u f) k i v e

none_same : (n : ℕ) (x : Slot) → ((v : Value) → x ≡ Val v → ⊥) → HasNone (replicate n x)
none_same zero x h = none_nil
none_same (suc n) x h = none_cons x (replicate n x) h (none_same n x h)

none_raw : (ws : List ℕ) → HasNone (map Raw ws)
none_raw [] = none_nil
none_raw (w ∷ ws) = none_cons (Raw w) (map Raw ws) (λ v e. cc) (none_raw ws)

none_sides : (pairs : List (Value × Value)) → HasNone (flat_map (λ pair. Side pair.0 ∷ Side pair.1 ∷ []) pairs)
none_sides [] = none_nil
none_sides (pair ∷ pairs) =
    none_cons (Side pair.0) (Side pair.1 ∷ flat_map (λ pair. Side pair.0 ∷ Side pair.1 ∷ []) pairs) (λ v e. cc)
    (none_cons (Side pair.1) (flat_map (λ pair. Side pair.0 ∷ Side pair.1 ∷ []) pairs) (λ v e. cc) (none_sides pairs))

none_padding : (n : ℕ) → HasNone (replicate n (Raw 0))
none_padding n = none_same n (Raw 0) (λ v e. cc)

none_table : (w : Weakness) (b : ℕ) (pairs : List (Value × Value)) → HasNone (slots (TableOf w b pairs))
none_table w b pairs =
    let sides = none_append (flat_map (λ pair. Side pair.0 ∷ Side pair.1 ∷ []) pairs) (replicate (2 * (b - length pairs)) (Side Unbound)) (none_sides pairs)
    (none_same (2 * (b - length pairs)) (Side Unbound) (λ v e. cc)) in
    let kept = none_same (2 * b) Kept (λ v e. cc) in
    let behind = none_append (pair_slots b pairs) (replicate (2 * b) Kept) sides kept in
    let payload : List Slot = Raw (fixnum_word (pos (weakness_number w))) ∷ Kept ∷ Raw (fixnum_word (pos (length pairs))) ∷ (pair_slots b pairs ++ replicate (2 * b) Kept) in
    none_cons (Raw (header_of kinds.Table (length payload))) (payload ++ replicate (size_with_header (length payload) - (length payload + 1)) (Raw 0)) (λ v e. cc)
    (none_append payload (replicate (size_with_header (length payload) - (length payload + 1)) (Raw 0))
    (none_cons (Raw (fixnum_word (pos (weakness_number w)))) (Kept ∷ Raw (fixnum_word (pos (length pairs))) ∷ (pair_slots b pairs ++ replicate (2 * b) Kept)) (λ v e. cc)
    (none_cons Kept (Raw (fixnum_word (pos (length pairs))) ∷ (pair_slots b pairs ++ replicate (2 * b) Kept)) (λ v e. cc)
    (none_cons (Raw (fixnum_word (pos (length pairs)))) (pair_slots b pairs ++ replicate (2 * b) Kept) (λ v e. cc) behind)))
    (none_padding (size_with_header (length payload) - (length payload + 1))))

none_words : (ws : List ℕ) → HasNone (slots (WordsOf ws))
none_words ws =
    let n = length (map Raw ws) in
    none_cons (Raw (header_of kinds.Words n)) (map Raw ws ++ replicate (size_with_header n - (n + 1)) (Raw 0)) (λ v e. cc)
    (none_append (map Raw ws) (replicate (size_with_header n - (n + 1)) (Raw 0)) (none_raw ws) (none_padding (size_with_header n - (n + 1))))

none_weak : (u : Value) → HasNone (slots (WeakTo u))
none_weak u =
    none_cons (Raw (header_of kinds.Weak 1)) (Side u ∷ []) (λ v e. cc) (none_cons (Side u) [] (λ v e. cc) none_nil)

-- values in front of slots that are no fields
field_among : (vs : List Value) (rest : List Slot) (i : ℕ) (v : Value) → HasNone rest → slice_get (map Val vs ++ rest) i ≡ Some (Val v) → slice_get vs i ≡ Some v
unfolding HasNone
field_among [] rest i v none e = absurd (none i v e)
field_among (x ∷ vs) rest zero v none e = cc
field_among (x ∷ vs) rest (suc i) v none e = field_among vs rest i v none e

among_field : (vs : List Value) (rest : List Slot) (i : ℕ) → i < length vs → slice_get (map Val vs ++ rest) i ≡ Some (Val (slice_index_or vs i zero_value))
among_field [] rest i l = absurd (omega (arith, l))
among_field (x ∷ vs) rest zero l = refl
among_field (x ∷ vs) rest (suc i) l = among_field vs rest i (omega (arith, l))

-- the values behind a header
abbrev pub behind : Kind → List Value → List Slot
behind kind vs = under_header kind (map Val vs)

-- field i is value number i less one
pub record IsNth (vs : List Value) (i : ℕ) (v : Value) : Type 0 where
  pub first : 1 ≤ i
  pub last : i < 1 + length vs
  pub is : slice_index_or vs (i - 1) zero_value ≡ v

nth_behind : (kind : Kind) (vs : List Value) (i : ℕ) (v : Value) → slice_get (behind kind vs) i ≡ Some (Val v) → IsNth vs i v
nth_behind kind vs zero v e = absurd (let never : Some (Raw (header_of kind (length (map Val vs)))) ≡ Some (Val v) = e in cc)
nth_behind kind vs (suc i) v e =
    let n = length (map Val vs) in
    let at : slice_get vs i ≡ Some v = field_among vs (replicate (size_with_header n - (n + 1)) (Raw 0)) i v (none_padding (size_with_header n - (n + 1))) e in
    let below = slice_get_within vs i v at in
    let back : suc i - 1 ≡ i = omega arith in
    record { first = omega arith; last = omega arith; is = rw back (get_or_from_slice_get vs i v zero_value at) }

behind_nth : (kind : Kind) (vs : List Value) (k : ℕ) → k < length vs → slice_get (behind kind vs) (1 + k) ≡ Some (Val (slice_index_or vs k zero_value))
behind_nth kind vs k l =
    let n = length (map Val vs) in
    let up : 1 + k ≡ suc k = omega arith in
    rw up (among_field vs (replicate (size_with_header n - (n + 1)) (Raw 0)) k l)

-- where the fields of an object with a header are
pub record IsBehind (contents : Contents) (i : ℕ) : Type 0 where
  pub from : 1 ≤ i
  pub below : i < 1 + fields_behind (kind_of contents) (payload_of contents)

pub field_is_behind : (contents : Contents) → kind_of contents ≢ kinds.Cons → (i : ℕ) (v : Value) → slot_at contents i ≡ Some (Val v) → IsBehind contents i
unfolding HasNone
field_is_behind (ConsOf a b) headed i v e = absurd (headed refl)
field_is_behind (VectorOf vs) headed i v e = (let at = nth_behind kinds.Vector vs i v e in record { from = at.first; below = at.last })
field_is_behind (InstanceOf vs) headed i v e = (let at = nth_behind kinds.Instance vs i v e in record { from = at.first; below = at.last })
field_is_behind (ClosureOf vs) headed i v e = (let at = nth_behind kinds.Closure vs i v e in record { from = at.first; below = at.last })
field_is_behind (WordsOf ws) headed i v e = absurd (none_words ws i v e)
field_is_behind (WeakTo u) headed i v e = absurd (none_weak u i v e)
field_is_behind (TableOf w b pairs) headed i v e = absurd (none_table w b pairs i v e)

-- each of them is a field
pub behind_is_field : (contents : Contents) (k : ℕ) → k < fields_behind (kind_of contents) (payload_of contents) → (v : Value) × (slot_at contents (1 + k) ≡ Some (Val v))
behind_is_field (ConsOf a b) k l = absurd (omega (arith, l))
behind_is_field (VectorOf vs) k l = (slice_index_or vs k zero_value, behind_nth kinds.Vector vs k l)
behind_is_field (InstanceOf vs) k l = (slice_index_or vs k zero_value, behind_nth kinds.Instance vs k l)
behind_is_field (ClosureOf vs) k l = (slice_index_or vs k zero_value, behind_nth kinds.Closure vs k l)
behind_is_field (WordsOf ws) k l = absurd (omega (arith, l))
behind_is_field (WeakTo u) k l = absurd (omega (arith, l))
behind_is_field (TableOf w b pairs) k l = absurd (omega (arith, l))

-- both words of a cons are fields
pub cons_is_field : (contents : Contents) → kind_of contents ≡ kinds.Cons → (k : ℕ) → k < 2 → (v : Value) × (slot_at contents k ≡ Some (Val v))
cons_is_field (ConsOf a b) cons zero l = (a, refl)
cons_is_field (ConsOf a b) cons (suc zero) l = (b, refl)
cons_is_field (ConsOf a b) cons (suc (suc k)) l = absurd (omega (arith, l))
cons_is_field (VectorOf vs) cons k l = absurd (let never : kinds.Vector ≡ kinds.Cons = cons in cc)
cons_is_field (InstanceOf vs) cons k l = absurd (let never : kinds.Instance ≡ kinds.Cons = cons in cc)
cons_is_field (ClosureOf vs) cons k l = absurd (let never : kinds.Closure ≡ kinds.Cons = cons in cc)
cons_is_field (WordsOf ws) cons k l = absurd (let never : kinds.Words ≡ kinds.Cons = cons in cc)
cons_is_field (WeakTo u) cons k l = absurd (let never : kinds.Weak ≡ kinds.Cons = cons in cc)
cons_is_field (TableOf w b pairs) cons k l = absurd (let never : kinds.Table ≡ kinds.Cons = cons in cc)

-- a field of an object whose values are kept is live
pub field_kept : (set : ℕ → Bool) (contents : Contents) (i : ℕ) (v : Value) → slot_at contents i ≡ Some (Val v) → Keeps set contents → is_live set v ≡ true
unfolding HasNone
field_kept set (ConsOf a b) zero v e h = (let same : a ≡ v = cc in subst (λ (u : Value). is_live set u ≡ true) same h.0)
field_kept set (ConsOf a b) (suc zero) v e h = (let same : b ≡ v = cc in subst (λ (u : Value). is_live set u ≡ true) same h.1)
field_kept set (ConsOf a b) (suc (suc i)) v e h = absurd (let never : None ≡ Some (Val v) = e in cc)
field_kept set (VectorOf vs) i v e h = subst (λ (u : Value). is_live set u ≡ true) (nth_behind kinds.Vector vs i v e).is (h (i - 1))
field_kept set (InstanceOf vs) i v e h = subst (λ (u : Value). is_live set u ≡ true) (nth_behind kinds.Instance vs i v e).is (h (i - 1))
field_kept set (ClosureOf vs) i v e h = subst (λ (u : Value). is_live set u ≡ true) (nth_behind kinds.Closure vs i v e).is (h (i - 1))
field_kept set (WordsOf ws) i v e h = absurd (none_words ws i v e)
field_kept set (WeakTo u) i v e h = absurd (none_weak u i v e)
field_kept set (TableOf w b pairs) i v e h = absurd (none_table w b pairs i v e)

-- a field's value is living
pub field_living : (objects : List (Option Object)) (contents : Contents) (i : ℕ) (v : Value) → slot_at contents i ≡ Some (Val v) → HoldsLiving objects contents → IsLiving objects v
unfolding HasNone
field_living objects (ConsOf a b) zero v e h = (let same : a ≡ v = cc in subst (λ (u : Value). IsLiving objects u) same h.0)
field_living objects (ConsOf a b) (suc zero) v e h = (let same : b ≡ v = cc in subst (λ (u : Value). IsLiving objects u) same h.1)
field_living objects (ConsOf a b) (suc (suc i)) v e h = absurd (let never : None ≡ Some (Val v) = e in cc)
field_living objects (VectorOf vs) i v e h = subst (λ (u : Value). IsLiving objects u) (nth_behind kinds.Vector vs i v e).is (h (i - 1))
field_living objects (InstanceOf vs) i v e h = subst (λ (u : Value). IsLiving objects u) (nth_behind kinds.Instance vs i v e).is (h (i - 1))
field_living objects (ClosureOf vs) i v e h = subst (λ (u : Value). IsLiving objects u) (nth_behind kinds.Closure vs i v e).is (h (i - 1))
field_living objects (WordsOf ws) i v e h = absurd (none_words ws i v e)
field_living objects (WeakTo u) i v e h = absurd (none_weak u i v e)
field_living objects (TableOf w b pairs) i v e h = absurd (none_table w b pairs i v e)
