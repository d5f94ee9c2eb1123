-- The parcels so far are fresh, and there is room for the rest.
use Rattle.std.proofs.Common.{◌≡◌, ◌≢◌, ℕ, ◌+◌, ◌<◌, ◌++◌, List, [], ◌∷◌, length, arith, subst, ap, ◌∙◌, sym, refl, inl, inr}
use Rattle.std.proofs.lemmas.List.{length_push}
use Rattle.heap_laws.proofs.AtPlaces.{push_cases}
use Rattle.lisp_heap.specs.Agreement.{AreFresh}
use Rattle.lisp_heap.specs.ParcelView.{ParcelView, empty_parcel}
use Rattle.lisp_heap.proofs.new_world.fresh_parcels.Goals as goal

fresh_none : AreFresh [] 0
fresh_none = record { count = refl; each = λ t d lt. absurd (omega arith) }

fresh_push : (parcels : List ParcelView) (n : ℕ) (q : ParcelView) → AreFresh parcels n → q ≡ empty_parcel n → AreFresh (parcels ++ q ∷ []) (n + 1)
fresh_push parcels n q h is = record {
  count = omega (arith, h.count, length_push parcels q);
  each = λ t d lt. elim (push_cases parcels t q d) [
    | inl old ↦ (
        let apart = old.0 in
        let below : t < n = omega (arith, h.count, below_or t n (length parcels) lt h.count apart) in
        old.1 ∙ h.each t d below)
    | inr new ↦ (
        let same : n ≡ t = omega (arith, h.count, new.0) in
        new.1 ∙ is ∙ ap empty_parcel same)
  ];
}
  where
    below_or : (t n m : ℕ) → t < n + 1 → m ≡ n → t ≢ m → t < n
    below_or t n m lt e apart = omega arith

pub loop-t-init : goal.loop-t-init
loop-t-init c = record {
  fresh = subst (λ (xs : List ParcelView). AreFresh xs 0) (sym c.in_ok-parcels.ensures.items) fresh_none;
  len = c.in_ok-parcels.ensures.len;
  room = c.in_ok-parcels.ensures.capacity;
}

pub push_reserved-requires : goal.push_reserved-requires
push_reserved-requires c = omega arith

pub loop-t-preserved : goal.loop-t-preserved
loop-t-preserved c = record {
  fresh = subst (λ (xs : List ParcelView). AreFresh xs (c.loop-t.t + 1)) (sym c.push_reserved.ensures.items)
      (fresh_push c.loop-t.parcels.items c.loop-t.t c.empty.result c.loop-t.invariant.fresh c.empty.ensures);
  len = omega arith;
  room = omega arith;
}

pub returns : goal.returns
returns c =
    let all : c.loop-t.t ≡ c.args.threads = omega arith in
    subst (λ (n : ℕ). AreFresh c.loop-t.parcels.items n) all c.loop-t.invariant.fresh
