-- When a parcel has just the regions that are out for its owner.
use Rattle.std.specs.Prelude.{◌≡◌, ◌≢◌, ℕ, ◌+◌, ◌*◌, ◌<◌, option_map, option_and_then, Option, Some, None, List, length, slice_index_or}
use Rattle.heap_terms.specs.declared.kinds.PageType.{PageType}
use Rattle.heap_terms.specs.declared.pages.Entry.{Entry}
use Rattle.heap_terms.specs.declared.pages.Entry.TheVariants.{Free, Used}
use Rattle.heap_terms.specs.declared.pages.Next.{Next}
use Rattle.heap_terms.specs.declared.pages.Next.TheVariants as nexts
use Rattle.heap_terms.specs.Heap.{NamedHeap, thread_at, entry_at, fill_of}
use Rattle.heap_terms.specs.Layout.{page_words}
use Rattle.heap_terms.specs.Histories.{IsOpening, command_at, wish_at, wished_size}
use Rattle.heap_terms.specs.Regions.{IsFreeRun, pages_needed}
use Rattle.lisp_heap.specs.declared.allocating.Lent.{Lent}
use Rattle.lisp_heap.specs.declared.allocating.Lent.TheVariants as lents
use Rattle.lisp_heap.specs.ParcelView.{ParcelView, empty_parcel, place_of, with_accepted, with_region, HasRoom, HasBuilt, IsMaking}
use Rattle.lisp_heap.specs.View.{View, heap_of}
use Rattle.lisp_heap.specs.declared.parcels.RegionPlace.{RegionPlace}

-- how many pages the run of a page has
abbrev pub run_pages_of : Entry → ℕ
run_pages_of Free = 0
run_pages_of (Used ty g fill first pages) = pages

-- the small region on an open page: its first page, its one page, and where its next object begins
abbrev pub small_out : List Entry → ℕ → RegionPlace
small_out pages page = record { first = page; pages = 1; next = page_words * page + fill_of (entry_at pages page) }

-- an open run, which holds nothing yet
abbrev pub run_out : List Entry → ℕ → RegionPlace
run_out pages first = record { first = first; pages = run_pages_of (entry_at pages first); next = page_words * first }

-- the type of a page in use
abbrev pub type_of : Entry → Option PageType
type_of Free = None
type_of (Used ty g fill first pages) = Some ty

-- the type of the pages of an open run
abbrev pub run_type_of : List Entry → Option ℕ → Option PageType
run_type_of pages run = option_and_then (λ first. type_of (entry_at pages first)) run

-- A parcel has just the regions that are out for its owner, at the places to which they are filled; its run is of the
-- type of the pages of the run that is out.
pub record Agrees (a : NamedHeap) (q : ParcelView) : Type 0 where
  pub cons : option_map place_of q.cons ≡ option_map (small_out a.pages) (thread_at a q.owner).cons_page
  pub boxed : option_map place_of q.boxed ≡ option_map (small_out a.pages) (thread_at a q.owner).boxed_page
  pub unboxed : option_map place_of q.unboxed ≡ option_map (small_out a.pages) (thread_at a q.owner).unboxed_page
  pub run : option_map place_of q.run ≡ option_map (run_out a.pages) (thread_at a q.owner).open_run
  pub run_type : option_map (λ r. r.ty) q.run ≡ run_type_of a.pages (thread_at a q.owner).open_run

-- every parcel of another owner that agreed before an event still agrees after it
abbrev pub OthersAgree : NamedHeap → NamedHeap → ℕ → Type 0
OthersAgree old new owner = (q : ParcelView) → q.owner ≢ owner → Agrees old q → Agrees new q

-- what is to be built is built in the owner's parcel
abbrev pub IsBuiltFor : Next → ParcelView → Type 0
IsBuiltFor (nexts.Build kind n seed) q = HasBuilt q kind n seed
IsBuiltFor nexts.Simple q = ⊥
IsBuiltFor nexts.Open q = ⊥
IsBuiltFor (nexts.Collect last) q = ⊥
IsBuiltFor nexts.End q = ⊥
IsBuiltFor nexts.Done q = ⊥

-- what is to be built can be built in a parcel that agrees
abbrev pub CanBuild : Next → ParcelView → Type 0
CanBuild (nexts.Build kind n seed) q = HasRoom q kind n × IsMaking kind n seed
CanBuild nexts.Simple q = Unit {0}
CanBuild nexts.Open q = Unit {0}
CanBuild (nexts.Collect last) q = Unit {0}
CanBuild nexts.End q = Unit {0}
CanBuild nexts.Done q = Unit {0}

-- the parcels of a new World: one for each thread by owner, each without regions
pub record AreFresh (parcels : List ParcelView) (threads : ℕ) : Type 0 where
  pub count : length parcels ≡ threads
  pub each : (t : ℕ) (d : ParcelView) → t < threads → slice_index_or parcels t d ≡ empty_parcel t

-- the pages that thread t's next object needs stand free side by side
abbrev pub HasRunFor : View → ℕ → Type 0
HasRunFor w t = (first : ℕ) × IsFreeRun (heap_of w).pages first (pages_needed (wished_size (wish_at (command_at w.program (heap_of w) t))))

-- what `lend` answers, by whether there is such a run
abbrev pub Lends : View → ℕ → Lent → Type 0
Lends old t lents.Opened = HasRunFor old t
Lends old t lents.Exhausted = ¬ HasRunFor old t

-- `lend` opened a region for the parcel's owner: it is of the type of the wished object and of as many pages as that
-- needs, on the lowest run of them, and it is in the parcel
pub record IsAdopted (old : View) (q after : ParcelView) : Type 0 where
  pub ty : PageType
  pub first : ℕ
  pub k : ℕ
  pub opening : IsOpening (heap_of old) (wish_at (command_at old.program (heap_of old) q.owner)) ty first k
  pub adopted : after ≡ with_region q ty first k

-- what `lend` makes of the parcel
abbrev pub Adopts : View → ParcelView → ParcelView → Lent → Type 0
Adopts old q after lents.Opened = IsAdopted old q after
Adopts old q after lents.Exhausted = after ≡ q

-- a parcel after the commit of what its owner was to build
abbrev pub accepted_for : Next → ParcelView → ParcelView
accepted_for (nexts.Build kind n seed) q = with_accepted q kind n
accepted_for nexts.Simple q = q
accepted_for nexts.Open q = q
accepted_for (nexts.Collect last) q = q
accepted_for nexts.End q = q
accepted_for nexts.Done q = q
