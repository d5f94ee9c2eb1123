-- What survives of a settled object holds live values alone, where what the object keeps is settled. And of an object that is
-- no weak pointer and no table everything survives, and none of its words is a side.
use Rattle.std.proofs.Common.{◌≡◌, ℕ, zero, suc, ◌+◌, ◌-◌, ◌*◌, List, [], ◌∷◌, ◌++◌, length, map, replicate, Bool, true, false, inl, inr, refl, sym, ◌∙◌, subst, Some}
use Rattle.std.proofs.lemmas.Bool.{and_parts, cases_Bool, false≢true}
use Rattle.std.proofs.lemmas.Option.{same_Some}
use Rattle.std.specs.Prelude.{slice_get, flat_map, filter, pos, if◌then◌else◌, ◌&&◌}
use Rattle.heap_terms.specs.declared.cells.Value.{Value}
use Rattle.heap_terms.specs.declared.cells.Value.TheVariants.{Unbound}
use Rattle.heap_terms.specs.declared.kinds.Kind.{Kind}
use Rattle.heap_terms.specs.declared.kinds.Kind.TheVariants as kinds
use Rattle.heap_terms.specs.declared.kinds.Weakness.{Weakness}
use Rattle.heap_terms.specs.Layout.{fixnum_word, header_of, size_with_header, weakness_number}
use Rattle.heap_terms.specs.Live.{is_live, AreLive, Keeps, KeepPairs}
use Rattle.heap_terms.specs.Objects.{Contents, ConsOf, VectorOf, InstanceOf, ClosureOf, WordsOf, WeakTo, TableOf}
use Rattle.heap_terms.specs.Slots.{Slot, Raw, Val, Side, Kept, under_header, pair_slots, slot_at}
use Rattle.heap_terms.specs.Survival.{is_kept, surviving}
use Rattle.copy_space.specs.WeakNames.{is_weak}
use Rattle.weak_refs.proofs.Pairs.{ready-kept}

-- the value of a slot is live, if it has one
abbrev pub IsSlotLive : (ℕ → Bool) → Slot → Type 0
IsSlotLive live (Raw w) = Unit {0}
IsSlotLive live (Val v) = is_live live v ≡ true
IsSlotLive live (Side v) = is_live live v ≡ true
IsSlotLive live Kept = Unit {0}

-- a slot is a raw word or a field
abbrev pub IsPlain : Slot → Type 0
IsPlain (Raw w) = Unit {0}
IsPlain (Val v) = Unit {0}
IsPlain (Side v) = ⊥
IsPlain Kept = ⊥

-- each of some slots has a property
abbrev AreSlots : (Slot → Type 0) → List Slot → Type 0
AreSlots P xs = (i : ℕ) (slot : Slot) → slice_get xs i ≡ Some slot → P slot

slots-none : (P : Slot → Type 0) → AreSlots P []
slots-none P i slot e = cc

slots-cons : (P : Slot → Type 0) (x : Slot) (xs : List Slot) → P x → AreSlots P xs → AreSlots P (x ∷ xs)
slots-cons P x xs here rest = go
  where
    go : AreSlots P (x ∷ xs)
    go zero slot e = subst (λ (s : Slot). P s) (same_Some x slot e) here
    go (suc i) slot e = rest i slot e

slots-append : (P : Slot → Type 0) (xs ys : List Slot) → AreSlots P xs → AreSlots P ys → AreSlots P (xs ++ ys)
slots-append P [] ys a b = b
slots-append P (x ∷ xs) ys a b = slots-cons P x (xs ++ ys) (a 0 x refl) (slots-append P xs ys (λ i slot e. a (suc i) slot e) b)

slots-same : (P : Slot → Type 0) (n : ℕ) (x : Slot) → P x → AreSlots P (replicate n x)
slots-same P zero x here = slots-none P
slots-same P (suc n) x here = slots-cons P x (replicate n x) here (slots-same P n x here)

slots-header : (P : Slot → Type 0) (kind : Kind) (payload : List Slot) → ((w : ℕ) → P (Raw w)) → AreSlots P payload → AreSlots P (under_header kind payload)
slots-header P kind payload raw a =
    slots-cons P (Raw (header_of kind (length payload))) _ (raw (header_of kind (length payload)))
    (slots-append P payload _ a (slots-same P (size_with_header (length payload) - (length payload + 1)) (Raw 0) (raw 0)))

slots-raws : (P : Slot → Type 0) (ws : List ℕ) → ((w : ℕ) → P (Raw w)) → AreSlots P (map Raw ws)
slots-raws P [] raw = slots-none P
slots-raws P (w ∷ ws) raw = slots-cons P (Raw w) (map Raw ws) (raw w) (slots-raws P ws raw)

-- fields
plain-vals : (vs : List Value) → AreSlots IsPlain (map Val vs)
plain-vals [] = slots-none IsPlain
plain-vals (v ∷ vs) = slots-cons IsPlain (Val v) (map Val vs) tt (plain-vals vs)

live-vals : (live : ℕ → Bool) (vs : List Value) → AreLive live vs → AreSlots (IsSlotLive live) (map Val vs)
live-vals live [] all = slots-none (IsSlotLive live)
live-vals live (v ∷ vs) all = slots-cons (IsSlotLive live) (Val v) (map Val vs) (all 0) (live-vals live vs (λ i. all (suc i)))

-- the sides of the pairs that are kept
live-pairs : (live : ℕ → Bool) (w : Weakness) (pairs : List (Value × Value)) → KeepPairs live w pairs →
    AreSlots (IsSlotLive live) (flat_map (λ pair. Side pair.0 ∷ Side pair.1 ∷ []) (filter (is_kept live w) pairs))
live-pairs live w [] all = slots-none (IsSlotLive live)
live-pairs live w (pair ∷ pairs) all = elim (cases_Bool (is_kept live w pair)) [
  | inr gone ↦ rw gone (live-pairs live w pairs (λ i. all (suc i)))
  | inl stays ↦ (let both : (is_live live pair.0 && is_live live pair.1) ≡ true = sym (ready-kept w (is_live live pair.0) (is_live live pair.1) (all 0)) ∙ stays in
      let parts = and_parts (is_live live pair.0) (is_live live pair.1) both in
      rw stays (slots-cons (IsSlotLive live) (Side pair.0) (Side pair.1 ∷ flat_map (λ pair. Side pair.0 ∷ Side pair.1 ∷ []) (filter (is_kept live w) pairs)) parts.0 (slots-cons (IsSlotLive live) (Side pair.1) (flat_map (λ pair. Side pair.0 ∷ Side pair.1 ∷ []) (filter (is_kept live w) pairs)) parts.1 (live-pairs live w pairs (λ i. all (suc i))))))
]

pub surviving-live : (live : ℕ → Bool) (k : Contents) → Keeps live k → (i : ℕ) (slot : Slot) → slot_at (surviving live k) i ≡ Some slot → IsSlotLive live slot
surviving-live live (ConsOf a b) h = slots-cons (IsSlotLive live) (Val a) (Val b ∷ []) h.0 (slots-cons (IsSlotLive live) (Val b) [] h.1 (slots-none (IsSlotLive live)))
surviving-live live (VectorOf vs) h = slots-header (IsSlotLive live) kinds.Vector (map Val vs) (λ w. tt) (live-vals live vs h)
surviving-live live (InstanceOf vs) h = slots-header (IsSlotLive live) kinds.Instance (map Val vs) (λ w. tt) (live-vals live vs h)
surviving-live live (ClosureOf vs) h = slots-header (IsSlotLive live) kinds.Closure (map Val vs) (λ w. tt) (live-vals live vs h)
surviving-live live (WordsOf ws) h = slots-header (IsSlotLive live) kinds.Words (map Raw ws) (λ w. tt) (slots-raws (IsSlotLive live) ws (λ w. tt))
surviving-live live (WeakTo v) h =
    slots-header (IsSlotLive live) kinds.Weak (Side (if is_live live v then v else Unbound) ∷ []) (λ w. tt)
    (slots-cons (IsSlotLive live) (Side (if is_live live v then v else Unbound)) [] left (slots-none (IsSlotLive live)))
  where
    left : is_live live (if is_live live v then v else Unbound) ≡ true
    left = elim (cases_Bool (is_live live v)) [ inl on ↦ rw on on | inr off ↦ rw off refl ]
surviving-live live (TableOf w b pairs) h =
    let kept = filter (is_kept live w) pairs in
    let sides = slots-append (IsSlotLive live) (flat_map (λ pair. Side pair.0 ∷ Side pair.1 ∷ []) kept) (replicate (2 * (b - length kept)) (Side Unbound)) (live-pairs live w pairs h)
    (slots-same (IsSlotLive live) (2 * (b - length kept)) (Side Unbound) refl) in
    let behind = slots-append (IsSlotLive live) (pair_slots b kept) (replicate (2 * b) Kept) sides (slots-same (IsSlotLive live) (2 * b) Kept tt) in
    slots-header (IsSlotLive live) kinds.Table
    (Raw (fixnum_word (pos (weakness_number w))) ∷ Kept ∷ Raw (fixnum_word (pos (length kept))) ∷ (pair_slots b kept ++ replicate (2 * b) Kept)) (λ w. tt)
    (slots-cons (IsSlotLive live) (Raw (fixnum_word (pos (weakness_number w)))) (Kept ∷ Raw (fixnum_word (pos (length kept))) ∷ (pair_slots b kept ++ replicate (2 * b) Kept)) tt
    (slots-cons (IsSlotLive live) Kept (Raw (fixnum_word (pos (length kept))) ∷ (pair_slots b kept ++ replicate (2 * b) Kept)) tt
    (slots-cons (IsSlotLive live) (Raw (fixnum_word (pos (length kept)))) (pair_slots b kept ++ replicate (2 * b) Kept) tt behind)))

-- everything survives of what is no weak pointer and no table
pub strong-survives : (live : ℕ → Bool) (k : Contents) → is_weak k ≡ false → surviving live k ≡ k
strong-survives live (ConsOf a b) strong = refl
strong-survives live (VectorOf vs) strong = refl
strong-survives live (InstanceOf vs) strong = refl
strong-survives live (ClosureOf vs) strong = refl
strong-survives live (WordsOf ws) strong = refl
strong-survives live (WeakTo v) strong = absurd (false≢true (sym strong))
strong-survives live (TableOf w b pairs) strong = absurd (false≢true (sym strong))

-- and each of its slots is a raw word or a field
pub strong-plain : (k : Contents) → is_weak k ≡ false → (i : ℕ) (slot : Slot) → slot_at k i ≡ Some slot → IsPlain slot
strong-plain (ConsOf a b) strong = slots-cons IsPlain (Val a) (Val b ∷ []) tt (slots-cons IsPlain (Val b) [] tt (slots-none IsPlain))
strong-plain (VectorOf vs) strong = slots-header IsPlain kinds.Vector (map Val vs) (λ w. tt) (plain-vals vs)
strong-plain (InstanceOf vs) strong = slots-header IsPlain kinds.Instance (map Val vs) (λ w. tt) (plain-vals vs)
strong-plain (ClosureOf vs) strong = slots-header IsPlain kinds.Closure (map Val vs) (λ w. tt) (plain-vals vs)
strong-plain (WordsOf ws) strong = slots-header IsPlain kinds.Words (map Raw ws) (λ w. tt) (slots-raws IsPlain ws (λ w. tt))
strong-plain (WeakTo v) strong = absurd (false≢true (sym strong))
strong-plain (TableOf w b pairs) strong = absurd (false≢true (sym strong))
