-- The slots of a table: its header, its weakness, its flag, its number of pairs, the sides of its pairs, unbound sides, and
-- what look-up keeps; and nothing else.
use Rattle.std.proofs.Common.{◌≡◌, ℕ, zero, suc, ◌+◌, ◌-◌, ◌*◌, ◌/◌, ◌%◌, ◌<◌, ◌≤◌, List, [], ◌∷◌, ◌++◌, length, replicate, Some, inl, inr, refl, sym, ◌∙◌, ap, subst, arith, append_assoc}
use Rattle.std.proofs.lemmas.Bool.{cases_eq, cases_lt}
use Rattle.std.proofs.lemmas.Option.{same_Some, slice_get_within}
use Rattle.std.specs.Prelude.{slice_get, slice_index_or, flat_map}
use Rattle.heap_terms.specs.declared.cells.Value.{Value}
use Rattle.heap_terms.specs.declared.cells.Value.TheVariants.{Unbound}
use Rattle.heap_terms.specs.declared.kinds.Kind.TheVariants as kinds
use Rattle.heap_terms.specs.declared.kinds.Weakness.{Weakness}
use Rattle.heap_terms.specs.Heap.{zero_value}
use Rattle.heap_terms.specs.Layout.{size_with_header, header_of, weakness_number}
use Rattle.heap_terms.specs.Objects.{TableOf}
use Rattle.heap_terms.specs.Slots.{Slot, Raw, Side, Kept, pair_slots, slot_at, slots}
use Rattle.heap_laws.proofs.Reading.{header_leads, slots-length}

-- pair k of a table
abbrev pub pair_of : List (Value × Value) → ℕ → Value × Value
pair_of pairs k = slice_index_or pairs k (zero_value, zero_value)

abbrev sides : List (Value × Value) → List Slot
sides pairs = flat_map (λ pair. Side pair.0 ∷ Side pair.1 ∷ []) pairs

key_slot : (pairs : List (Value × Value)) (rest : List Slot) (k : ℕ) → k < length pairs → slice_get (sides pairs ++ rest) (2 * k) ≡ Some (Side (pair_of pairs k).0)
key_slot [] rest k l = absurd (omega (arith, l))
key_slot (p ∷ ps) rest zero l = refl
key_slot (p ∷ ps) rest (suc k) l = (let up : 2 * suc k ≡ suc (suc (2 * k)) = omega arith in rw up (key_slot ps rest k (omega (arith, l))))

value_slot : (pairs : List (Value × Value)) (rest : List Slot) (k : ℕ) → k < length pairs → slice_get (sides pairs ++ rest) (suc (2 * k)) ≡ Some (Side (pair_of pairs k).1)
value_slot [] rest k l = absurd (omega (arith, l))
value_slot (p ∷ ps) rest zero l = refl
value_slot (p ∷ ps) rest (suc k) l = (let up : 2 * suc k ≡ suc (suc (2 * k)) = omega arith in rw up (value_slot ps rest k (omega (arith, l))))

behind_sides : (pairs : List (Value × Value)) (rest : List Slot) (j : ℕ) → slice_get (sides pairs ++ rest) (2 * length pairs + j) ≡ slice_get rest j
behind_sides [] rest j = (let none : 2 * 0 + j ≡ j = omega arith in ap (λ (i : ℕ). slice_get rest i) none)
behind_sides (p ∷ ps) rest j = (let up : 2 * length (p ∷ ps) + j ≡ suc (suc (2 * length ps + j)) = omega arith in rw up (behind_sides ps rest j))

same_slot : (n : ℕ) (x : Slot) (rest : List Slot) (j : ℕ) → j < n → slice_get (replicate n x ++ rest) j ≡ Some x
same_slot zero x rest j l = absurd (omega (arith, l))
same_slot (suc n) x rest zero l = refl
same_slot (suc n) x rest (suc j) l = same_slot n x rest j (omega (arith, l))

behind_same : (n : ℕ) (x : Slot) (rest : List Slot) (j : ℕ) → slice_get (replicate n x ++ rest) (n + j) ≡ slice_get rest j
behind_same zero x rest j = (let none : 0 + j ≡ j = omega arith in ap (λ (i : ℕ). slice_get rest i) none)
behind_same (suc n) x rest j = (let up : suc n + j ≡ suc (n + j) = omega arith in rw up (behind_same n x rest j))

module _ (w : Weakness) (b : ℕ) (pairs : List (Value × Value)) where
  unused : List Slot
  unused = replicate (2 * (b - length pairs)) (Side Unbound)

  keeps : List Slot
  keeps = replicate (2 * b) Kept

  payload : List Slot
  payload = Raw (2 * weakness_number w) ∷ Kept ∷ Raw (2 * length pairs) ∷ (pair_slots b pairs ++ replicate (2 * b) Kept)

  pad : List Slot
  pad = replicate (size_with_header (length payload) - (length payload + 1)) (Raw 0)

  behind_count : (j : ℕ) → slot_at (TableOf w b pairs) (4 + j) ≡ slice_get (sides pairs ++ (unused ++ (keeps ++ pad))) j
  unfolding unused keeps payload pad
  behind_count j =
      let up : 4 + j ≡ suc (suc (suc (suc j))) = omega arith in
      ap (λ (i : ℕ). slot_at (TableOf w b pairs) i) up
      ∙ ap (λ (xs : List Slot). slice_get xs j) (append_assoc (sides pairs ++ unused) keeps pad ∙ append_assoc (sides pairs) unused (keeps ++ pad))

  pub slot_key : (k : ℕ) → k < length pairs → slot_at (TableOf w b pairs) (4 + 2 * k) ≡ Some (Side (pair_of pairs k).0)
  slot_key k l = behind_count (2 * k) ∙ key_slot pairs (unused ++ (keeps ++ pad)) k l

  pub slot_value : (k : ℕ) → k < length pairs → slot_at (TableOf w b pairs) (5 + 2 * k) ≡ Some (Side (pair_of pairs k).1)
  slot_value k l = (let up : 5 + 2 * k ≡ 4 + suc (2 * k) = omega arith in ap (λ (i : ℕ). slot_at (TableOf w b pairs) i) up ∙ behind_count (suc (2 * k)) ∙ value_slot pairs (unused ++ (keeps ++ pad)) k l)

  module _ (few : length pairs ≤ b) where
    pub slot_unbound : (i : ℕ) → 2 * length pairs ≤ i → i < 2 * b → slot_at (TableOf w b pairs) (4 + i) ≡ Some (Side Unbound)
    unfolding unused
    slot_unbound i low high =
        let j = i - 2 * length pairs in
        let at : i ≡ 2 * length pairs + j = omega arith in
        behind_count i ∙ ap (λ (n : ℕ). slice_get (sides pairs ++ (unused ++ (keeps ++ pad))) n) at ∙ behind_sides pairs (unused ++ (keeps ++ pad)) j
        ∙ same_slot (2 * (b - length pairs)) (Side Unbound) (keeps ++ pad) j (omega arith)

    pub slot_kept : (i : ℕ) → i < 2 * b → slot_at (TableOf w b pairs) (4 + 2 * b + i) ≡ Some Kept
    unfolding unused keeps
    slot_kept i l =
        let n = 2 * (b - length pairs) in
        let up : 4 + 2 * b + i ≡ 4 + (2 * length pairs + (n + i)) = omega arith in
        ap (λ (i : ℕ). slot_at (TableOf w b pairs) i) up ∙ behind_count (2 * length pairs + (n + i)) ∙ behind_sides pairs (unused ++ (keeps ++ pad)) (n + i)
        ∙ behind_same n (Side Unbound) (keeps ++ pad) i ∙ same_slot (2 * b) Kept pad i l

    slot_below : (i : ℕ) (slot : Slot) → slot_at (TableOf w b pairs) i ≡ Some slot → i < 4 + 4 * b
    slot_below i slot e = omega (arith, slice_get_within (slots (TableOf w b pairs)) i slot e, slots-length (TableOf w b pairs) few)

    -- what holds of all of them holds of each slot
    pub each_slot : (P : ℕ → Slot → Type 0) → P 0 (Raw (header_of kinds.Table (3 + 4 * b))) → P 1 (Raw (2 * weakness_number w)) → P 2 Kept → P 3 (Raw (2 * length pairs)) →
        ((k : ℕ) → k < length pairs → P (4 + 2 * k) (Side (pair_of pairs k).0)) → ((k : ℕ) → k < length pairs → P (5 + 2 * k) (Side (pair_of pairs k).1)) →
        ((i : ℕ) → 2 * length pairs ≤ i → i < 2 * b → P (4 + i) (Side Unbound)) → ((i : ℕ) → i < 2 * b → P (4 + 2 * b + i) Kept) →
        (i : ℕ) (slot : Slot) → slot_at (TableOf w b pairs) i ≡ Some slot → P i slot
    each_slot P header weakness flag count keys values unbound kept = go
      where
        it : (i : ℕ) (slot known : Slot) → slot_at (TableOf w b pairs) i ≡ Some slot → slot_at (TableOf w b pairs) i ≡ Some known → P i known → P i slot
        it i slot known e f h = subst (λ (x : Slot). P i x) (same_Some known slot (sym f ∙ e)) h

        behind : (j : ℕ) → j < 4 * b → (i : ℕ) (slot : Slot) → i ≡ 4 + j → slot_at (TableOf w b pairs) i ≡ Some slot → P i slot
        behind j below i slot at e = elim (cases_lt j (2 * length pairs)) [
          | inl side ↦ elim (cases_eq (j % 2) 0) [
            | inl even ↦ (let is : 4 + 2 * (j / 2) ≡ i = omega arith in
                let l : j / 2 < length pairs = omega arith in
                it i slot (Side (pair_of pairs (j / 2)).0) e (subst (λ (n : ℕ). slot_at (TableOf w b pairs) n ≡ Some (Side (pair_of pairs (j / 2)).0)) is (slot_key (j / 2) l))
                (subst (λ (n : ℕ). P n (Side (pair_of pairs (j / 2)).0)) is (keys (j / 2) l)))
            | inr odd ↦ (let is : 5 + 2 * (j / 2) ≡ i = omega arith in
                let l : j / 2 < length pairs = omega arith in
                it i slot (Side (pair_of pairs (j / 2)).1) e (subst (λ (n : ℕ). slot_at (TableOf w b pairs) n ≡ Some (Side (pair_of pairs (j / 2)).1)) is (slot_value (j / 2) l))
                (subst (λ (n : ℕ). P n (Side (pair_of pairs (j / 2)).1)) is (values (j / 2) l)))
          ]
          | inr free ↦ elim (cases_lt j (2 * b)) [
            | inl room ↦ it i slot (Side Unbound) e (ap (λ (n : ℕ). slot_at (TableOf w b pairs) n) at ∙ slot_unbound j free room) (subst (λ (n : ℕ). P n (Side Unbound)) (sym at) (unbound j free room))
            | inr past ↦ (let is : 4 + 2 * b + (j - 2 * b) ≡ i = omega arith in
                let l : j - 2 * b < 2 * b = omega arith in
                it i slot Kept e (subst (λ (n : ℕ). slot_at (TableOf w b pairs) n ≡ Some Kept) is (slot_kept (j - 2 * b) l)) (subst (λ (n : ℕ). P n Kept) is (kept (j - 2 * b) l)))
          ]
        ]

        go : (i : ℕ) (slot : Slot) → slot_at (TableOf w b pairs) i ≡ Some slot → P i slot
        go zero slot e = it 0 slot (Raw (header_of kinds.Table (3 + 4 * b))) e (header_leads (TableOf w b pairs) few (λ never. cc)) header
        go (suc zero) slot e = it 1 slot (Raw (2 * weakness_number w)) e refl weakness
        go (suc (suc zero)) slot e = it 2 slot Kept e refl flag
        go (suc (suc (suc zero))) slot e = it 3 slot (Raw (2 * length pairs)) e refl count
        go (suc (suc (suc (suc j)))) slot e =
            let below = slot_below (suc (suc (suc (suc j)))) slot e in
            behind j (omega arith) (suc (suc (suc (suc j)))) slot (omega arith) e
