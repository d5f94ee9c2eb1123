-- The rule holds at the start, and where the first seat splits off another.
use Rattle.std.proofs.Common.{◌≡◌, ◌⊎◌, ◌<◌, ◌+◌, ℕ, zero, suc, List, [], ◌∷◌, ◌++◌, Some, length, set, map, replicate, refl, sym, ap, ◌∙◌, subst, inl, inr, ⊎_elim, length-set, length-append, arith}
use Rattle.std.proofs.lemmas.List.{get_or-replicate, length-map}
use mathlib.Core.Option.{some, some-ne-none, some-injective}
use lib.ListN.{get_elem?, length-replicate}
use Rattle.atomic_table.specs.Table.{Splits, opening}
use Rattle.atomic_table.proofs.Lists.{at_map}
use Rattle.stop_words.specs.declared.view.Place.TheVariants.{Parked, Holding}
use Rattle.stop_words.specs.declared.view.View.{View}
use Rattle.stop_words.specs.Places.{lists_at}
use Rattle.stop_words.specs.Owners.{numbers_from, ByOwner}
use Rattle.stop_words.specs.Rule.{FitsView, StopRule, first_view, splitting, split_off}
use Rattle.stop_words.proofs.Basics.{below, off}
use Rattle.stop_words.proofs.Rules.{fits_set}

at_snoc_at : {A : Type 0} (l : List A) (a b : A) (j : ℕ) → get_elem? (l ++ a ∷ []) j ≡ some b → (get_elem? l j ≡ some b) ⊎ ((j ≡ length l) × (a ≡ b))
at_snoc_at [] a b zero e = inr (refl, some-injective a b e)
at_snoc_at [] a b (suc j) e = absurd (some-ne-none b (sym e))
at_snoc_at (x ∷ xs) a b zero e = inl e
at_snoc_at (x ∷ xs) a b (suc j) e = ⊎_elim (λ h. inl h) (λ h. inr (ap suc h.0, h.1)) (at_snoc_at xs a b j e)

-- the parcels by owner: the one at t belongs to t
pub owned_at : {P : Type 0} (owner : P → ℕ) (a m : ℕ) (parcels : List P) → map owner parcels ≡ numbers_from a m → (t : ℕ) → t < m → (p : P) × (get_elem? parcels t ≡ some p) × (owner p ≡ a + t)
owned_at owner a zero parcels e t lt = absurd (omega arith)
owned_at owner a (suc m) [] e t lt = absurd (cc)
owned_at owner a (suc m) (x ∷ xs) e zero lt = let h : owner x ≡ a = cc in (x, refl, omega arith)
owned_at owner a (suc m) (x ∷ xs) e (suc t) lt = let h : map owner xs ≡ numbers_from (suc a) m = cc in let ih = owned_at owner (suc a) m xs h t (omega arith) in let is = ih.2 in (ih.0, ih.1, omega arith)

pub length-numbers_from : (a m : ℕ) → length (numbers_from a m) ≡ m
length-numbers_from a zero = refl
length-numbers_from a (suc m) = ap suc (length-numbers_from (suc a) m)

module _ {P : Type 0} (owner : P → ℕ) (n : ℕ) where
  pub begins : (parcels : List P) → ByOwner owner n parcels → 0 < n → StopRule owner n (opening (0 ∷ replicate n 4) (map Some parcels) first_view)
  begins parcels mine some_thread = record {
    places = λ t. Parked;
    posted_now = [];
    seen_now = [];
    word_count = ap suc (length-replicate n 4);
    slot_count = length-map (map Some parcels) some ∙ length-map parcels Some ∙ sym (length-map parcels owner) ∙ ap length mine ∙ length-numbers_from 0 n;
    view_count = omega arith;
    holder = λ t e. let q : Parked ≡ Holding = e in absurd (cc);
    turn = λ t e. let q : 0 ≡ suc t = e in absurd (omega arith);
    free = λ e. (refl, refl);
    words = λ t lt. get_or-replicate n t 4 0 lt;
    slots = λ t lt. let h = owned_at owner 0 n parcels mine t lt in let is = h.2 in (h.0, at_map some (map Some parcels) t (Some h.0) (at_map Some parcels t h.0 h.1), omega arith);
    posted_in = λ u e. absurd (off e);
    seen_in = λ u e. absurd (off e);
    views = one;
    unseated = λ t le. refl;
  }
    where
      one : (id : ℕ) (v : View) → get_elem? (first_view ∷ []) id ≡ some v → FitsView (λ t. Parked) [] [] 1 id v
      one zero v e = subst (FitsView (λ t. Parked) [] [] 1 0) (some-injective _ _ e) (record { number = refl; at = refl; posts = refl; sees = refl; gives = λ z. refl })
      one (suc id) v e = absurd (some-ne-none v (sym e))

  pub splits : (id : ℕ) (v : View) → v.thread ≡ 0 → v.given < n → Splits (StopRule owner n) id v (splitting v) (split_off v)
  splits id v first room s r at =
      let mine = r.views id v at in
      let zero_id : id ≡ 0 = sym mine.number ∙ first in
      let count : v.given ≡ length s.views = mine.gives zero_id in
      let size : length (set s.views id (splitting v) ++ split_off v ∷ []) ≡ length s.views + 1 = length-append (set s.views id (splitting v)) (split_off v ∷ []) ∙ ap (λ k. k + 1) (length-set s.views id (splitting v)) in record {
        places = r.places;
        posted_now = r.posted_now;
        seen_now = r.seen_now;
        word_count = r.word_count;
        slot_count = r.slot_count;
        view_count = omega arith;
        holder = r.holder;
        turn = r.turn;
        free = r.free;
        words = r.words;
        slots = r.slots;
        posted_in = r.posted_in;
        seen_in = r.seen_in;
        views = λ j u e. subst (λ k. FitsView r.places r.posted_now r.seen_now k j u) (sym size) (⊎_elim
            (λ h. fits_set (FitsView r.places r.posted_now r.seen_now (length s.views + 1)) s.views id (splitting v)
            (λ i w ne f. let o = r.views i w f in record { number = o.number; at = o.at; posts = o.posts; sees = o.sees; gives = λ z. absurd (ne (z ∙ sym zero_id)) })
            (record { number = mine.number; at = mine.at; posts = mine.posts; sees = mine.sees; gives = λ z. ap (λ k. k + 1) count })
            j u h)
            (λ h. subst (FitsView r.places r.posted_now r.seen_now (length s.views + 1) j) h.1 (
            let is : j ≡ length s.views = h.0 ∙ length-set s.views id (splitting v) in
            let parked : r.places j ≡ Parked = r.unseated j (omega arith) in record {
              number = count ∙ sym is;
              at = sym parked;
              posts = sym (ap (λ q. lists_at q r.posted_now) parked);
              sees = sym (ap (λ q. lists_at q r.seen_now) parked);
              gives = λ z. let b = below s.views id v at in absurd (omega arith);
            }))
            (at_snoc_at (set s.views id (splitting v)) (split_off v) u j e));
        unseated = λ t le. r.unseated t (omega arith);
      }
