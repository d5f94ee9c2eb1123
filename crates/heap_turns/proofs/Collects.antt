-- The collection of a thread that is alone: nobody keeps it from being made, and the parcels are ready again after it.
use Rattle.std.proofs.Common.{◌≡◌, ℕ, ◌<◌, List, length, map, true, refl, sym, ◌∙◌, ap, arith, get_or, zero-add}
use Rattle.std.specs.List.{range_with_len}
use Rattle.std.proofs.lemmas.Bool.{false≢true}
use Rattle.std.proofs.lemmas.List.{get_or-map, length-map, ext_get_or}
use Rattle.std.proofs.lemmas.List.FromFn.{length-range_with_len, get_or-range_with_len}
use Rattle.heap_terms.specs.declared.pages.Next.{Next}
use Rattle.heap_terms.specs.declared.pages.Next.TheVariants as nexts
use Rattle.heap_terms.specs.Heap.{thread_at}
use Rattle.heap_terms.specs.Phases.{collects}
use Rattle.lisp_heap.specs.ParcelView.{ParcelView, empty_parcel}
use Rattle.lisp_heap.specs.Ready.{AreByOwner, IsLowestBusy, owner_of}
use Rattle.lisp_heap.specs.Ready as ready
use Rattle.lisp_heap.specs.View.{View, heap_of}
use Rattle.heap_turns.specs.Parcels.{AreReady}

-- what is due is a collection
pub collection_of : (n : Next) → collects n ≡ true → (last : ℕ) × (n ≡ nexts.Collect last)
collection_of nexts.Simple e = absurd (false≢true e)
collection_of nexts.Open e = absurd (false≢true e)
collection_of (nexts.Build kind n seed) e = absurd (false≢true e)
collection_of (nexts.Collect last) e = (last, refl)
collection_of nexts.End e = absurd (false≢true e)
collection_of nexts.Done e = absurd (false≢true e)

-- parcels that are ready stand by owner
pub by_owner : (w : View) (parcels : List ParcelView) → AreReady w parcels → AreByOwner parcels (length w.program.threads)
by_owner w parcels h = ext_get_or 0 (map owner_of parcels) (range_with_len 0 (length w.program.threads))
    (length-map parcels owner_of ∙ h.count ∙ sym (length-range_with_len 0 (length w.program.threads)))
    (λ i below.
    let long : length (map owner_of parcels) ≡ length parcels = length-map parcels owner_of in
    let inside : i < length parcels = omega arith in
    let named : i < length w.program.threads = (let count = h.count in omega arith) in
    get_or-map owner_of parcels i (empty_parcel 0) 0 inside ∙ h.owners i (empty_parcel 0) inside
    ∙ sym (get_or-range_with_len 0 (length w.program.threads) i 0 named ∙ zero-add i))

-- and after a collection they do again, and agree
pub ready_again : (w : View) (parcels : List ParcelView) → ready.AreReady (heap_of w) parcels (length w.program.threads) → AreReady w parcels
ready_again w parcels h =
    let n = length w.program.threads in
    let count : length parcels ≡ n = sym (length-map parcels owner_of) ∙ ap (λ (xs : List ℕ). length xs) h.owners ∙ length-range_with_len 0 n in
    record {
      count = count;
      owners = λ t d below.
          sym (get_or-map owner_of parcels t d 0 below) ∙ ap (λ (xs : List ℕ). get_or xs t 0) h.owners ∙ get_or-range_with_len 0 n t 0 (omega arith) ∙ zero-add t;
      agree = λ t d below. h.agree t d below;
    }

-- nobody keeps a thread that is alone from its collection
pub never_busy : (w : View) (parcels : List ParcelView) (u : ℕ) → AreReady w parcels → ((t : ℕ) → (thread_at (heap_of w) t).inhibits ≡ 0) →
    IsLowestBusy (heap_of w) parcels u → ⊥
never_busy w parcels u h allowed busy = busy.busy (record { allows = allowed u; agrees = λ d. h.agree u d busy.there })
