-- Lists of parcels by owner that grow.
use Rattle.std.proofs.Common.{◌≡◌, ℕ, zero, suc, ◌+◌, List, [], ◌∷◌, ◌++◌, map, subst, ap, ◌∙◌, sym, inl, inr, arith, add-one, add-zero, zero-add}
use Rattle.std.proofs.lemmas.List.{length_push, map-append}
use Rattle.std.specs.List.{range_with_len}
use Rattle.std.specs.Prelude.{All}
use Rattle.heap_laws.proofs.AtPlaces.{push_cases}
use Rattle.lisp_heap.specs.ParcelView.{ParcelView}
use Rattle.lisp_heap.specs.Ready.{owner_of}

range-suc : (a n m : ℕ) → a + n ≡ m → range_with_len a (suc n) ≡ range_with_len a n ++ m ∷ []
range-suc a zero m e = ap (λ (x : ℕ). x ∷ []) (sym (add-zero a) ∙ e)
range-suc a (suc n) m e = ap (λ (xs : List ℕ). a ∷ xs) (range-suc (a + 1) n m (omega arith))

-- one parcel more, of the next owner
pub owners_push : (xs : List ParcelView) (q : ParcelView) (t : ℕ) → map owner_of xs ≡ range_with_len 0 t → q.owner ≡ t → map owner_of (xs ++ q ∷ []) ≡ range_with_len 0 (t + 1)
owners_push xs q t owners owner =
    map-append owner_of xs (q ∷ []) ∙ ap (λ (ys : List ℕ). ys ++ q.owner ∷ []) owners ∙ ap (λ (u : ℕ). range_with_len 0 t ++ u ∷ []) owner
    ∙ sym (rw add-one (range-suc 0 t t (zero-add t)))

-- what holds of each holds of one more
pub all_push : (P : ParcelView → Type 0) (xs : List ParcelView) (q : ParcelView) → All P xs → P q → All P (xs ++ q ∷ [])
all_push P xs q all own k d l = elim (push_cases xs k q d) [
  | inl old ↦ subst P (sym old.1) (all k d (let apart = old.0 in let long = length_push xs q in omega arith))
  | inr new ↦ subst P (sym new.1) own
]
