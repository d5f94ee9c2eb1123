-- Parcels at a collection: one for each thread, by owner, and who keeps a collection from being made.
use Rattle.std.specs.Prelude.{◌≡◌, ℕ, ◌<◌, List, length, map, All, Result, Ok, Err, slice_index_or}
use Rattle.std.specs.List.{range_with_len}
use Rattle.heap_terms.specs.Heap.{NamedHeap, thread_at}
use Rattle.lisp_heap.specs.Agreement.{Agrees}
use Rattle.lisp_heap.specs.ParcelView.{ParcelView, empty_parcel}
use Rattle.lisp_heap.specs.declared.collecting.CollectFault.{CollectFault}
use Rattle.lisp_heap.specs.declared.collecting.CollectFault.TheVariants.{Busy, Memory}

abbrev pub owner_of : ParcelView → ℕ
owner_of q = q.owner

-- there is one parcel for each of the threads, and the i-th belongs to thread i
abbrev pub AreByOwner : List ParcelView → ℕ → Type 0
AreByOwner parcels threads = map owner_of parcels ≡ range_with_len 0 threads

-- and each has just the regions that are out for its owner
pub record AreReady (a : NamedHeap) (parcels : List ParcelView) (threads : ℕ) : Type 0 where
  pub owners : AreByOwner parcels threads
  pub agree : All (Agrees a) parcels

-- parcels that are all without regions, of the same owners in the same places
abbrev pub all_empty : List ParcelView → List ParcelView
all_empty parcels = map (λ (q : ParcelView). empty_parcel q.owner) parcels

-- a thread lets a collection be made: it does not inhibit, and its parcel agrees
pub record Lets (a : NamedHeap) (parcels : List ParcelView) (u : ℕ) : Type 0 where
  pub allows : (thread_at a u).inhibits ≡ 0
  pub agrees : (d : ParcelView) → Agrees a (slice_index_or parcels u d)

-- every thread does
abbrev pub AllLet : NamedHeap → List ParcelView → Type 0
AllLet a parcels = (u : ℕ) → u < length parcels → Lets a parcels u

-- the lowest thread that does not
pub record IsLowestBusy (a : NamedHeap) (parcels : List ParcelView) (u : ℕ) : Type 0 where
  pub there : u < length parcels
  pub busy : ¬ Lets a parcels u
  pub lower : (v : ℕ) → v < u → Lets a parcels v

-- what the answer of a collection says: `Busy` names the lowest thread that does not let it be made, and every other
-- answer tells that there is none
abbrev pub TellsBusy : {A : Type 0} → NamedHeap → List ParcelView → Result A CollectFault → Type 0
TellsBusy a parcels (Ok x) = AllLet a parcels
TellsBusy a parcels (Err (Busy u)) = IsLowestBusy a parcels u
TellsBusy a parcels (Err Memory) = AllLet a parcels
