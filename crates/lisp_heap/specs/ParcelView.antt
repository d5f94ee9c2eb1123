-- What contracts see of a Parcel: the open regions of one thread.
use Rattle.std.specs.Prelude.{◌≡◌, ℕ, ◌+◌, ◌-◌, ◌*◌, ◌≤◌, ◌<◌, ◌^◌, Option, Some, None, IsSomeAnd, option_map, if◌then◌else◌, false, ◌==◌}
use Rattle.heap_terms.specs.declared.kinds.Kind.{Kind}
use Rattle.heap_terms.specs.declared.kinds.Kind.TheVariants as kinds
use Rattle.heap_terms.specs.declared.kinds.PageType.{PageType}
use Rattle.heap_terms.specs.declared.kinds.PageType.TheVariants as types
use Rattle.heap_terms.specs.Layout.{page_words, page_type_of, size_of}
use Rattle.heap_terms.specs.Regions.{is_small}
use Rattle.lisp_heap.specs.declared.parcels.Making.{Making}
use Rattle.lisp_heap.specs.declared.parcels.RegionPlace.{RegionPlace}

-- a region: the type of its pages, its first page, its pages, the index at which its next object begins, and what
-- is built there and not committed
pub record LeaseView : Type 0 where
  pub ty : PageType
  pub first : ℕ
  pub pages : ℕ
  pub next : ℕ
  pub built : Option Making

-- a parcel: its owner, the open small region of each type, and the open run for a large object
pub record ParcelView : Type 0 where
  pub owner : ℕ
  pub cons : Option LeaseView
  pub boxed : Option LeaseView
  pub unboxed : Option LeaseView
  pub run : Option LeaseView

-- a parcel without regions
abbrev pub empty_parcel : ℕ → ParcelView
empty_parcel owner = record { owner = owner; cons = None; boxed = None; unboxed = None; run = None }

-- the small region of a type
abbrev pub small_region : ParcelView → PageType → Option LeaseView
small_region q types.Cons = q.cons
small_region q types.Boxed = q.boxed
small_region q types.Unboxed = q.unboxed

-- the region into which an object of a kind with n words of payload goes
abbrev pub region_for : ParcelView → Kind → ℕ → Option LeaseView
region_for q kind n = if is_small (size_of kind n) then small_region q (page_type_of kind) else q.run

-- how many words of a region are left
abbrev pub room_of : LeaseView → ℕ
room_of r = page_words * (r.first + r.pages) - r.next

-- a region has room for an object of a kind; a run for a large object was opened for its type of pages
abbrev pub Fits : Kind → ℕ → LeaseView → Type 0
Fits kind n r = (size_of kind n ≤ room_of r) × (is_small (size_of kind n) ≡ false → r.ty ≡ page_type_of kind)

-- an object can be built: the region of its class is there and has room
abbrev pub HasRoom : ParcelView → Kind → ℕ → Type 0
HasRoom q kind n = IsSomeAnd (region_for q kind n) (Fits kind n)

-- what `build` makes: n words of payload of a kind, and a seed
abbrev pub IsMaking : Kind → ℕ → ℕ → Type 0
IsMaking kinds.Cons n seed = (n ≡ 2) × (seed ≡ 0)
IsMaking kinds.Vector n seed = (n ≤ 65535) × (seed ≡ 0)
IsMaking kinds.Instance n seed = (n ≤ 65535) × (seed ≡ 0)
IsMaking kinds.Closure n seed = (n ≤ 65535) × (seed ≡ 0)
IsMaking kinds.Words n seed = (n ≤ 65535) × (seed < 2 ^ 64)
IsMaking kinds.Weak n seed = (n ≡ 1) × (seed ≡ 0)
IsMaking kinds.Table n seed = ((b : ℕ) × (1 ≤ b) × (b ≤ 64) × (n ≡ 3 + 4 * b)) × (seed ≤ 4)

-- this object is built in the region of its class and not committed
abbrev pub HasBuilt : ParcelView → Kind → ℕ → ℕ → Type 0
HasBuilt q kind n seed = IsSomeAnd (region_for q kind n) (λ r. r.built ≡ Some (record { kind = kind; n = n; seed = seed }))

-- a region without what is built there
abbrev pub place_of : LeaseView → RegionPlace
place_of r = record { first = r.first; pages = r.pages; next = r.next }

-- the number of regions in a parcel
abbrev pub one_if : Option LeaseView → ℕ
one_if None = 0
one_if (Some r) = 1

abbrev pub regions_in : ParcelView → ℕ
regions_in q = one_if q.cons + one_if q.boxed + one_if q.unboxed + one_if q.run

-- a parcel with another small region of a type
abbrev pub with_small : ParcelView → PageType → Option LeaseView → ParcelView
with_small q types.Cons r = record q { cons = r }
with_small q types.Boxed r = record q { boxed = r }
with_small q types.Unboxed r = record q { unboxed = r }

-- a region that is filled up to an index, in which nothing is built
abbrev pub lease_at : PageType → ℕ → ℕ → ℕ → LeaseView
lease_at ty first k next = record { ty = ty; first = first; pages = k; next = next; built = None }

-- a parcel after a region came: one of one page is its small region of the type, in place of the one that was there; a
-- longer one is its run
abbrev pub with_lease : ParcelView → LeaseView → ParcelView
with_lease q r = if r.pages == 1 then with_small q r.ty (Some r) else record q { run = Some r }

-- a region of k pages that was just opened
abbrev pub fresh_lease : PageType → ℕ → ℕ → LeaseView
fresh_lease ty first k = record { ty = ty; first = first; pages = k; next = page_words * first; built = None }

-- a parcel after a region of k pages was opened: one page is its small region of the type, in place of the one that
-- was there; a longer run is its run
abbrev pub with_region : ParcelView → PageType → ℕ → ℕ → ParcelView
with_region q ty first k =
    let r = Some (fresh_lease ty first k) in
    if k == 1 then with_small q ty r else record q { run = r }

-- a region after the object of a size that is built there was committed
abbrev pub region_accepted : ℕ → LeaseView → LeaseView
region_accepted size r = record r { next = r.next + size; built = None }

-- a parcel after the object of a kind that is built there was committed: a large one leaves it without its run
abbrev pub with_accepted : ParcelView → Kind → ℕ → ParcelView
with_accepted q kind n =
    let size = size_of kind n in
    let ty = page_type_of kind in
    if is_small size then with_small q ty (option_map (region_accepted size) (small_region q ty)) else record q { run = None }

-- a region after an object was built there
abbrev pub region_built : Making → LeaseView → LeaseView
region_built m r = record r { built = Some m }

-- a parcel after an object was built in its small region of a type
abbrev pub small_built : ParcelView → PageType → Making → ParcelView
small_built q types.Cons m = record q { cons = option_map (region_built m) q.cons }
small_built q types.Boxed m = record q { boxed = option_map (region_built m) q.boxed }
small_built q types.Unboxed m = record q { unboxed = option_map (region_built m) q.unboxed }

-- a parcel after an object was built in the region of its class: what is built in the other regions stays
abbrev pub with_built : ParcelView → Kind → ℕ → ℕ → ParcelView
with_built q kind n seed =
    let m : Making = record { kind = kind; n = n; seed = seed } in
    if is_small (size_of kind n) then small_built q (page_type_of kind) m else record q { run = option_map (region_built m) q.run }
