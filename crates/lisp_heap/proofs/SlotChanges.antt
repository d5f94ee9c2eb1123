-- Which slot of an object holds a field or a raw word, and what a change of it makes of the slots.
use Rattle.std.proofs.Common.{◌≡◌, ◌≢◌, ℕ, zero, suc, ◌+◌, ◌-◌, ◌<◌, ◌≤◌, List, [], ◌∷◌, ◌++◌, length, map, replicate, Option, Some, ◌⊎◌, inl, inr, refl, sym, ◌∙◌, subst, ap, arith, get_or, set}
use Rattle.std.proofs.lemmas.Bool.{cases_eq}
use Rattle.std.proofs.lemmas.List.{length-map, length-set, map-set, set-append_left, get_or_append_left, get_or-map, get_or-set_same, get_or-set_other}
use Rattle.std.proofs.lemmas.Option.{slice_get_within, slice_get-get_or, get_or_from_slice_get}
use Rattle.std.proofs.Common.{length-append}
use Rattle.std.specs.Prelude.{slice_get}
use Rattle.heap_terms.specs.declared.cells.Value.{Value}
use Rattle.heap_terms.specs.declared.kinds.Kind.{Kind}
use Rattle.heap_terms.specs.declared.kinds.Kind.TheVariants as kinds
use Rattle.heap_terms.specs.Heap.{zero_value}
use Rattle.heap_terms.specs.Layout.{header_of, size_with_header}
use Rattle.heap_terms.specs.Living.{IsShaped}
use Rattle.heap_terms.specs.Objects.{Contents, ConsOf, VectorOf, InstanceOf, ClosureOf, WordsOf, WeakTo, TableOf, kind_of, payload_of, fields_of}
use Rattle.heap_terms.specs.Referents.{with_field}
use Rattle.heap_terms.specs.Slots.{Slot, Raw, Val, Side, Kept, under_header, slots, slot_at}
use Rattle.heap_terms.specs.Stands.{StandsFor}
use Rattle.heap_terms.specs.Objects.{Object}
use Rattle.heap_laws.specs.WordLaws.{IsWithinCapacity, word_of_slot}
use Rattle.lisp_heap.specs.LivingWords.{header_words}

-- ---- a payload under a header

under_get : (kind : Kind) (payload : List Slot) (i : ℕ) (d : Slot) → i < length payload →
    slice_get (under_header kind payload) (suc i) ≡ Some (get_or payload i d)
under_get kind payload i d l =
    let pad = replicate (size_with_header (length payload) - (length payload + 1)) (Raw 0) in
    let inside : i < length (payload ++ pad) = omega (arith, length-append payload pad) in
    slice_get-get_or (payload ++ pad) i d inside ∙ ap {B = Option Slot} (λ s. Some s) (get_or_append_left payload pad d i l)

under_set : (kind : Kind) (payload : List Slot) (i : ℕ) (s : Slot) → i < length payload →
    under_header kind (set payload i s) ≡ set (under_header kind payload) (suc i) s
under_set kind payload i s l =
    let pad = replicate (size_with_header (length payload) - (length payload + 1)) (Raw 0) in
    rw (length-set payload i s) (ap (λ (ss : List Slot). Raw (header_of kind (length payload)) ∷ ss) (sym (set-append_left payload pad i s l)))

-- the slot behind a header, by its number
behind : (P : ℕ → Type 0) (i : ℕ) → P (suc i) → P (1 + i)
behind P i h = subst P (omega arith) h

vals_at : (vs : List Value) (i : ℕ) → i < length vs → get_or (map Val vs) i (Val zero_value) ≡ Val (get_or vs i zero_value)
vals_at vs i l = get_or-map Val vs i zero_value (Val zero_value) l

headed_field : (kind : Kind) (vs : List Value) (i : ℕ) → i < length vs → slice_get (under_header kind (map Val vs)) (1 + i) ≡ Some (Val (get_or vs i zero_value))
headed_field kind vs i l =
    behind (λ k. slice_get (under_header kind (map Val vs)) k ≡ Some (Val (get_or vs i zero_value))) i
    (under_get kind (map Val vs) i (Val zero_value) (omega (arith, length-map vs Val)) ∙ ap {B = Option Slot} (λ s. Some s) (vals_at vs i l))

headed_set : (kind : Kind) (vs : List Value) (i : ℕ) (v : Value) → i < length vs →
    under_header kind (map Val (set vs i v)) ≡ set (under_header kind (map Val vs)) (1 + i) (Val v)
headed_set kind vs i v l =
    behind (λ k. under_header kind (map Val (set vs i v)) ≡ set (under_header kind (map Val vs)) k (Val v)) i
    (ap (under_header kind) (map-set Val vs i v) ∙ under_set kind (map Val vs) i (Val v) (omega (arith, length-map vs Val)))

-- ---- fields

fields_same : (vs ws : List Value) → Some vs ≡ Some ws → vs ≡ ws
fields_same vs ws e = cc

pub fields_payload : (k : Contents) (vs : List Value) → fields_of k ≡ Some vs → payload_of k ≡ length vs
fields_payload (ConsOf a b) vs e = ap length (fields_same (a ∷ b ∷ []) vs e)
fields_payload (VectorOf us) vs e = ap length (fields_same us vs e)
fields_payload (InstanceOf us) vs e = ap length (fields_same us vs e)
fields_payload (ClosureOf us) vs e = ap length (fields_same us vs e)
fields_payload (WordsOf ws) vs e = cc
fields_payload (WeakTo v) vs e = cc
fields_payload (TableOf w b pairs) vs e = cc

cons_field : (a b : Value) (i : ℕ) → i < 2 → slice_get (Val a ∷ Val b ∷ []) (0 + i) ≡ Some (Val (get_or (a ∷ b ∷ []) i zero_value))
cons_field a b zero l = refl
cons_field a b (suc zero) l = refl
cons_field a b (suc (suc i)) l = absurd (omega arith)

cons_set : (a b : Value) (i : ℕ) (v : Value) → i < 2 → slots (with_field (ConsOf a b) i v) ≡ set (Val a ∷ Val b ∷ []) (0 + i) (Val v)
cons_set a b zero v l = refl
cons_set a b (suc zero) v l = refl
cons_set a b (suc (suc i)) v l = absurd (omega arith)

-- field i has a slot
pub field_slot : (k : Contents) (vs : List Value) (i : ℕ) → fields_of k ≡ Some vs → i < length vs →
    slot_at k (header_words (kind_of k) + i) ≡ Some (Val (get_or vs i zero_value))
field_slot (ConsOf a b) vs i e l = rw (← fields_same (a ∷ b ∷ []) vs e) (cons_field a b i (omega (arith, ap length (fields_same (a ∷ b ∷ []) vs e))))
field_slot (VectorOf us) vs i e l = rw (fields_same us vs e) (headed_field kinds.Vector vs i l)
field_slot (InstanceOf us) vs i e l = rw (fields_same us vs e) (headed_field kinds.Instance vs i l)
field_slot (ClosureOf us) vs i e l = rw (fields_same us vs e) (headed_field kinds.Closure vs i l)
field_slot (WordsOf ws) vs i e l = cc
field_slot (WeakTo v) vs i e l = cc
field_slot (TableOf w b pairs) vs i e l = cc

-- a change of the field changes this slot alone
pub field_set : (k : Contents) (vs : List Value) (i : ℕ) (v : Value) → fields_of k ≡ Some vs → i < length vs →
    slots (with_field k i v) ≡ set (slots k) (header_words (kind_of k) + i) (Val v)
field_set (ConsOf a b) vs i v e l = cons_set a b i v (omega (arith, ap length (fields_same (a ∷ b ∷ []) vs e)))
field_set (VectorOf us) vs i v e l = headed_set kinds.Vector us i v (omega (arith, ap length (fields_same us vs e)))
field_set (InstanceOf us) vs i v e l = headed_set kinds.Instance us i v (omega (arith, ap length (fields_same us vs e)))
field_set (ClosureOf us) vs i v e l = headed_set kinds.Closure us i v (omega (arith, ap length (fields_same us vs e)))
field_set (WordsOf ws) vs i v e l = cc
field_set (WeakTo w) vs i v e l = cc
field_set (TableOf w b pairs) vs i v e l = cc

-- ---- raw words

pub raw_slot : (ws : List ℕ) (i : ℕ) → i < length ws → slot_at (WordsOf ws) (1 + i) ≡ Some (Raw (get_or ws i 0))
raw_slot ws i l =
    behind (λ k. slice_get (under_header kinds.Words (map Raw ws)) k ≡ Some (Raw (get_or ws i 0))) i
    (under_get kinds.Words (map Raw ws) i (Raw 0) (omega (arith, length-map ws Raw))
    ∙ ap {B = Option Slot} (λ s. Some s) (get_or-map Raw ws i 0 (Raw 0) l))

pub raw_set : (ws : List ℕ) (i w : ℕ) → i < length ws → slots (WordsOf (set ws i w)) ≡ set (slots (WordsOf ws)) (1 + i) (Raw w)
raw_set ws i w l =
    behind (λ k. under_header kinds.Words (map Raw (set ws i w)) ≡ set (under_header kinds.Words (map Raw ws)) k (Raw w)) i
    (ap (under_header kinds.Words) (map-set Raw ws i w) ∙ under_set kinds.Words (map Raw ws) i (Raw w) (omega (arith, length-map ws Raw)))

-- ---- slots after one of them changed

pub slot_cases : (old : List Slot) (i j : ℕ) (slot s : Slot) → slice_get (set old i slot) j ≡ Some s →
    ((j ≡ i) × (s ≡ slot)) ⊎ ((j ≢ i) × (slice_get old j ≡ Some s))
slot_cases old i j slot s e =
    let inside : j < length old = omega (arith, slice_get_within (set old i slot) j s e, length-set old i slot) in
    let read : get_or (set old i slot) j Kept ≡ s = get_or_from_slice_get (set old i slot) j s Kept e in
    elim (cases_eq j i) [
      | inl same ↦ (
          let at : i < length old = subst (λ (k : ℕ). k < length old) same inside in
          inl (same, sym read ∙ ap (λ (k : ℕ). get_or (set old i slot) k Kept) same ∙ get_or-set_same old i slot Kept at))
      | inr other ↦ inr (
        other,
        slice_get-get_or old j Kept inside
            ∙ ap {B = Option Slot} (λ x. Some x) (sym (get_or-set_other old i j slot Kept other) ∙ read),
      )
    ]

-- the word of a slot stands for it
pub stands_for : (objects : List (Option Object)) (s : Slot) (word : ℕ) → word ≡ word_of_slot objects s → StandsFor objects s word
stands_for objects (Raw w) word e = e
stands_for objects (Val v) word e = e
stands_for objects (Side v) word e = e
stands_for objects Kept word e = tt

-- ---- shapes

pub within_capacity : (k : Contents) → IsShaped k → IsWithinCapacity k
within_capacity (ConsOf a b) h = tt
within_capacity (VectorOf vs) h = tt
within_capacity (InstanceOf vs) h = tt
within_capacity (ClosureOf vs) h = tt
within_capacity (WordsOf ws) h = tt
within_capacity (WeakTo v) h = tt
within_capacity (TableOf w b pairs) h = h.2

pub payload_small : (k : Contents) → IsShaped k → payload_of k ≤ 65535
payload_small (ConsOf a b) h = omega arith
payload_small (VectorOf vs) h = h
payload_small (InstanceOf vs) h = h
payload_small (ClosureOf vs) h = h
payload_small (WordsOf ws) h = h.0
payload_small (WeakTo v) h = omega arith
payload_small (TableOf w b pairs) h = omega (arith, h.1)
