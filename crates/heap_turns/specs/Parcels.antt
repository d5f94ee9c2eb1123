-- Parcels that are ready for any turn. This project's own.
use Rattle.std.specs.Prelude.{◌≡◌, ℕ, ◌<◌, List, length, slice_index_or}
use Rattle.lisp_heap.specs.Agreement.{Agrees}
use Rattle.lisp_heap.specs.ParcelView.{ParcelView}
use Rattle.lisp_heap.specs.View.{View, heap_of}

-- there is one parcel for each thread, by owner, and each has just the regions that are out for its owner
pub record AreReady (w : View) (parcels : List ParcelView) : Type 0 where
  pub count : length parcels ≡ length w.program.threads
  pub owners : (t : ℕ) (d : ParcelView) → t < length parcels → (slice_index_or parcels t d).owner ≡ t
  pub agree : (t : ℕ) (d : ParcelView) → t < length parcels → Agrees (heap_of w) (slice_index_or parcels t d)
