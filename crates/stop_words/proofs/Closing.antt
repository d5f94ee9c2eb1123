-- What the slots had at the end.
use Rattle.std.proofs.Common.{◌≡◌, ◌<◌, ◌+◌, ℕ, zero, suc, Bool, true, false, List, [], ◌∷◌, ◌++◌, Option, None, Some, length, take, option_to_list, refl, sym, ap, ◌∙◌, subst, add-one, arith}
use Rattle.std.specs.Prelude.{slice_get, slice_index}
use mathlib.Core.Option.{some, some-injective, some-ne-none}
use lib.ListN.{get_elem?}
use Rattle.atomic_table.specs.Table.{Final}
use Rattle.stop_words.specs.declared.view.Place.{Place}
use Rattle.stop_words.specs.declared.view.Place.TheVariants.{Parked, Outside, Inside, Holding}
use Rattle.stop_words.specs.Places.{word_of, is_in, is_home}
use Rattle.stop_words.specs.Rule.{LiesAt, StopRule}
use Rattle.stop_words.specs.ParcelSlots.{parcels_in, ClosesWith}
use Rattle.stop_words.proofs.Basics.{true_not_false}

parcels_cons : {P : Type 0} (x : Option P) (xs : List (Option P)) → parcels_in (x ∷ xs) ≡ option_to_list x ++ parcels_in xs
parcels_cons None xs = refl
parcels_cons (Some p) xs = refl

parcel_alone : {P : Type 0} (x : Option P) → parcels_in (x ∷ []) ≡ option_to_list x
parcel_alone None = refl
parcel_alone (Some p) = refl

parcels_go : {P : Type 0} (x : Option P) (a b : List P) (c : List P) → a ≡ b ++ c → option_to_list x ++ a ≡ (option_to_list x ++ b) ++ c
parcels_go None a b c e = e
parcels_go (Some p) a b c e = ap (λ l. p ∷ l) e

took_suc : {P : Type 0} (xs : List (Option P)) (i : ℕ) (y : Option P) → get_elem? xs i ≡ some y → parcels_in (take (suc i) xs) ≡ parcels_in (take i xs) ++ option_to_list y
took_suc [] i y e = absurd (some-ne-none y (sym e))
took_suc (x ∷ xs) zero y e = ap (λ z. parcels_in (z ∷ [])) (some-injective x y e) ∙ parcel_alone y
took_suc (x ∷ xs) (suc i) y e = parcels_cons x (take (suc i) xs) ∙ parcels_go x _ _ _ (took_suc xs i y e) ∙ ap (λ l. l ++ option_to_list y) (sym (parcels_cons x (take i xs)))

pub took : {P : Type 0} (xs : List (Option P)) (i : ℕ) (y : Option P) → get_elem? xs i ≡ some y → parcels_in (take (i + 1) xs) ≡ parcels_in (take i xs) ++ option_to_list y
took xs i y e = ap (λ k. parcels_in (take k xs)) (add-one i) ∙ took_suc xs i y e

-- a word that says no more than that its thread is parked
parked_word : (p : Place) (b : Bool) → word_of p b ≡ 4 → (p ≡ Parked) × (b ≡ false)
parked_word Parked false e = (refl, refl)
parked_word Parked true e = let q : ◌≡◌ {A = ℕ} 6 4 = e in absurd (omega arith)
parked_word Outside false e = let q : ◌≡◌ {A = ℕ} 0 4 = e in absurd (omega arith)
parked_word Outside true e = let q : ◌≡◌ {A = ℕ} 2 4 = e in absurd (omega arith)
parked_word Inside false e = let q : ◌≡◌ {A = ℕ} 1 4 = e in absurd (omega arith)
parked_word Inside true e = let q : ◌≡◌ {A = ℕ} 3 4 = e in absurd (omega arith)
parked_word Holding false e = let q : ◌≡◌ {A = ℕ} 0 4 = e in absurd (omega arith)
parked_word Holding true e = let q : ◌≡◌ {A = ℕ} 2 4 = e in absurd (omega arith)

got : {A : Type 0} (xs : List A) (i : ℕ) (y : A) → get_elem? xs i ≡ some y → slice_get xs i ≡ Some y
got [] i y e = absurd (some-ne-none y (sym e))
got (x ∷ xs) zero y e = ap Some (some-injective x y e)
got (x ∷ xs) (suc i) y e = got xs i y e

module _ {P : Type 0} (owner : P → ℕ) where
  pub closes : (n : ℕ) (words : List ℕ) (slots : List (Option P)) (parcels : List P) → Final (StopRule owner n) words slots → length slots ≡ n → parcels ≡ parcels_in slots → ClosesWith owner n parcels
  closes n words slots parcels last count all = record {
    words = words;
    slots = slots;
    word_count = ap length (sym last.2) ∙ last.1.word_count;
    count = count;
    rule = last;
    all = all;
    parked = λ t lt e. parked_at t lt (ap (λ (ws : List ℕ). slice_index ws (suc t)) last.2 ∙ e);
  }
    where
      parked_at : (t : ℕ) → t < n → slice_index last.0.words (suc t) ≡ 4 → (p : P) × (slice_get slots t ≡ Some (Some p)) × (owner p ≡ t)
      parked_at t lt e =
          let s = last.0 in
          let r = last.1 in
          let w = parked_word (r.places t) (is_in t r.posted_now) (sym (r.words t lt) ∙ e) in
          let lies : LiesAt owner s.homes t true = by_seen r (is_in t r.seen_now) refl w.0 w.1 in
          (lies.0, got slots t (Some lies.0) (last.4 t (Some lies.0) lies.1), lies.2)
        where
          by_seen : (r : StopRule owner n last.0) (b : Bool) → is_in t r.seen_now ≡ b → r.places t ≡ Parked → is_in t r.posted_now ≡ false → LiesAt owner last.0.homes t true
          by_seen r true seen parked clear = absurd (true_not_false (sym (r.seen_in t seen).0 ∙ clear))
          by_seen r false seen parked clear = subst (λ b. LiesAt owner last.0.homes t b) (ap (λ p. is_home p (is_in t r.seen_now)) parked ∙ ap (is_home Parked) seen) (r.slots t lt)
