-- The list of seats as it is made.
use Rattle.std.proofs.Common.{◌≡◌, ◌⊎◌, ℕ, zero, suc, List, [], ◌∷◌, ◌++◌, Some, map, replicate, length, ◌<◌, Option, refl, sym, ap, ◌∙◌, subst, inl, inr, ⊎_elim}
use Rattle.std.specs.Prelude.{slice_get}
use Rattle.heap_terms.specs.declared.steps.Owned.{Ghosts}
use Rattle.stop_words.specs.declared.seats.StopSeat.{StopSeat}
use Rattle.stop_words.specs.declared.seats.StopWords.{StopWords}
use Rattle.atomic_table.specs.Table.{opening}
use Rattle.stop_words.specs.Owners.{ByOwner}
use Rattle.stop_words.specs.Rule.{StopRule, first_view}
use Rattle.stop_words.specs.ParcelSlots.{parcels_in}
use Rattle.stop_words.proofs.Start.{begins}
use Rattle.stop_words.specs.Seats.{Fresh, AllFresh, OthersFresh}

get_snoc : {A : Type 0} (xs : List A) (x y : A) (i : ℕ) → slice_get (xs ++ x ∷ []) i ≡ Some y → (slice_get xs i ≡ Some y) ⊎ ((i ≡ length xs) × (x ≡ y))
get_snoc [] x y zero e = let q : x ≡ y = cc in inr (refl, q)
get_snoc [] x y (suc i) e = absurd (cc)
get_snoc (z ∷ xs) x y zero e = inl e
get_snoc (z ∷ xs) x y (suc i) e = ⊎_elim (λ h. inl h) (λ h. inr (ap suc h.0, h.1)) (get_snoc xs x y i e)

module _ {P : Type 0} {G : Ghosts P} (words : StopWords P) where
  pub others_push : (xs ys : List (StopSeat P G)) (x : StopSeat P G) (k : ℕ) → ys ≡ xs ++ x ∷ [] → suc (length xs) ≡ k → OthersFresh words xs → Fresh words k x → OthersFresh words ys
  others_push xs ys x k is count others fresh i seat e = ⊎_elim
      (λ h. others i seat h)
      (λ h. subst (λ t. Fresh words t seat) (sym (ap suc h.0 ∙ count)) (subst (Fresh words k) h.1 fresh))
      (get_snoc xs x seat i (sym (ap (λ l. slice_get l i) is) ∙ e))

  pub all_insert : (xs ys : List (StopSeat P G)) (x : StopSeat P G) → ys ≡ x ∷ xs → Fresh words 0 x → OthersFresh words xs → AllFresh words ys
  all_insert xs ys x is fresh others zero seat e = let h : Some x ≡ Some seat = sym (ap (λ l. slice_get l 0) is) ∙ e in let q : x ≡ seat = cc in subst (Fresh words 0) q fresh
  all_insert xs ys x is fresh others (suc i) seat e = others i seat (sym (ap (λ l. slice_get l (suc i)) is) ∙ e)

pub parcels_back : {P : Type 0} (xs : List P) → parcels_in (map Some xs) ≡ xs
parcels_back [] = refl
parcels_back (x ∷ xs) = ap (λ l. x ∷ l) (parcels_back xs)

-- the rule at the start, of words and slots that are told by equations
module _ {P : Type 0} (owner : P → ℕ) where
  pub begins_so : (n k : ℕ) (parcels : List P) (words : List ℕ) (slots : List (Option P)) → n ≡ k → ByOwner owner k parcels → 0 < k → words ≡ 0 ∷ replicate k 4 → slots ≡ map Some parcels
      → StopRule owner n (opening words slots first_view)
  begins_so n k parcels words slots same owned some_thread words_are slots_are =
      subst (λ j. StopRule owner j (opening words slots first_view)) (sym same)
      (subst (λ (ws : List ℕ). StopRule owner k (opening ws slots first_view)) (sym words_are)
      (subst (λ (xs : List (Option P)). StopRule owner k (opening (0 ∷ replicate k 4) xs first_view)) (sym slots_are) (begins owner k parcels owned some_thread)))

get_front : {A : Type 0} (xs : List A) (x y : A) (i : ℕ) → slice_get xs i ≡ Some y → slice_get (xs ++ x ∷ []) i ≡ Some y
get_front [] x y i e = absurd (cc)
get_front (z ∷ xs) x y zero e = e
get_front (z ∷ xs) x y (suc i) e = get_front xs x y i e

get_end : {A : Type 0} (xs : List A) (x : A) → slice_get (xs ++ x ∷ []) (length xs) ≡ Some x
get_end [] x = refl
get_end (z ∷ xs) x = get_end xs x

module _ {P : Type 0} {G : Ghosts P} (words : StopWords P) where
  pub fresh_rest : (xs ys : List (StopSeat P G)) (x : StopSeat P G) → xs ≡ ys ++ x ∷ [] → AllFresh words xs → AllFresh words ys
  fresh_rest xs ys x is all i seat e = all i seat (ap (λ l. slice_get l i) is ∙ get_front ys x seat i e)

  pub fresh_last : (xs ys : List (StopSeat P G)) (x : StopSeat P G) (n : ℕ) → xs ≡ ys ++ x ∷ [] → length ys ≡ n → AllFresh words xs → Fresh words n x
  fresh_last xs ys x n is count all = subst (λ k. Fresh words k x) count (all (length ys) x (ap (λ l. slice_get l (length ys)) is ∙ get_end ys x))
