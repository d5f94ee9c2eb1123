-- What is known of seats and of parcels by owner.
use Rattle.std.proofs.Common.{◌≡◌, ℕ, zero, suc, ◌+◌, ◌<◌, List, [], ◌∷◌, length, map, Some, refl, sym, ◌∙◌, ap, subst, arith, get_or, zero-add, add-one, vec_len}
use Rattle.std.proofs.lemmas.List.{get_or-map, length-map, ext_get_or}
use Rattle.std.proofs.lemmas.List.FromFn.{length-range_with_len, get_or-range_with_len}
use Rattle.std.proofs.lemmas.Option.{slice_get-get_or}
use Rattle.std.specs.List.{range_with_len}
use Rattle.std.specs.Prelude.{All}
use Rattle.heap_terms.specs.declared.steps.Owned.{Ghosts}
use Rattle.lisp_heap.specs.Agreement.{AreFresh}
use Rattle.lisp_heap.specs.ParcelView.{ParcelView, empty_parcel}
use Rattle.lisp_heap.specs.Ready.{AreByOwner, owner_of}
use Rattle.stop_words.specs.declared.seats.StopSeat.{StopSeat}
use Rattle.stop_words.specs.declared.seats.StopWords.{StopWords}
use Rattle.stop_words.specs.declared.view.Place.TheVariants.{Parked}
use Rattle.stop_words.specs.Owners.{ByOwner, numbers_from}
use Rattle.stop_words.specs.Seats.{view_of, IsSeatOf, threads_of, AllFresh}
use Rattle.thread_scripts.specs.Workers.{IsAt}

pub numbers_are : (a n : ℕ) → numbers_from a n ≡ range_with_len a n
numbers_are a zero = refl
numbers_are a (suc n) = ap (λ (xs : List ℕ). a ∷ xs) (numbers_are (suc a) n ∙ ap (λ (k : ℕ). range_with_len k n) (sym (add-one a)))

-- fresh parcels stand by owner
pub fresh_by_owner : (ps : List ParcelView) (n : ℕ) → AreFresh ps n → ByOwner owner_of (length ps) ps
fresh_by_owner ps n fresh = ext_get_or 0 (map owner_of ps) (range_with_len 0 n)
    (length-map ps owner_of ∙ fresh.count ∙ sym (length-range_with_len 0 n))
    (λ i below.
    let long : length (map owner_of ps) ≡ length ps = length-map ps owner_of in
    let inside : i < length ps = omega arith in
    let named : i < n = (let count = fresh.count in omega arith) in
    get_or-map owner_of ps i (empty_parcel 0) 0 inside ∙ ap (λ (q : ParcelView). q.owner) (fresh.each i (empty_parcel 0) named)
    ∙ sym (get_or-range_with_len 0 n i 0 named ∙ zero-add i))
    ∙ sym (numbers_are 0 n) ∙ ap (λ (k : ℕ). numbers_from 0 k) (sym fresh.count)

-- lists of the same owners are of one length
pub same_owners : (xs ys : List ParcelView) → map owner_of xs ≡ map owner_of ys → length xs ≡ length ys
same_owners xs ys e = sym (length-map xs owner_of) ∙ ap (λ (ks : List ℕ). length ks) e ∙ length-map ys owner_of

module _ {P : Type 0} {G : Ghosts P} where
  -- a seat's thread is one of the threads
  pub seat_below : (words : StopWords P) (seat : StopSeat P G) → IsSeatOf seat words → (view_of seat).thread < threads_of words
  seat_below words seat is =
      let slots : seat.seat.table_id.slots ≡ words.table.shared.table_id.slots = ap (λ x. x.slots) is in
      omega (arith, seat.number, seat.in_range, slots, words.counts.1)

  -- fresh seats are parked
  pub fresh_parked : (words : StopWords P) (seats : List (StopSeat P G)) → AllFresh words seats → All (λ (seat : StopSeat P G). IsAt words seat Parked) seats
  fresh_parked words seats fresh k d l =
      let f = fresh k (get_or seats k d) (slice_get-get_or seats k d l) in
      record { seat_of = f.seat_of; place_is = f.parked; none_out = f.none_out }
