-- What a parcel keeps of a region.
use Rattle.std.specs.Prelude.{◌≡◌, [], length}
use Rattle.std.specs.Option.{ForSome}
use Rattle.heap_terms.specs.declared.kinds.PageType.{PageType}
use Rattle.heap_terms.specs.Fresh.{fresh_contents}
use Rattle.heap_terms.specs.Layout.{size_of}
use Rattle.heap_terms.specs.Spelling.{spelling}
use Rattle.lisp_heap.specs.ParcelView.{LeaseView}
use Rattle.lisp_heap.specs.declared.parcels.Lease.{Lease}
use Rattle.lisp_heap.specs.declared.parcels.Making.{Making}

-- a region as contracts see it
abbrev pub lease_view : Lease → LeaseView
lease_view l = record { ty = l.region.ty; first = l.region.first; pages = l.region.pages; next = l.region.next; built = l.built }

-- the words of an object that is built are in the region, as many as its size says
pub record IsBuiltThere (l : Lease) (m : Making) : Type 0 where
  pub words : l.region.built ≡ spelling [] (fresh_contents m.kind m.n m.seed)
  pub size : length l.region.built ≡ size_of m.kind m.n

-- a lease says what is built in its region
pub record IsLease (l : Lease) : Type 0 where
  pub built : ForSome l.built (IsBuiltThere l)

-- a small region has its type, one page, and says what is built there
pub record IsSmallLease (ty : PageType) (l : Lease) : Type 0 where
  pub type : l.region.ty ≡ ty
  pub pages : l.region.pages ≡ 1
  pub lease : IsLease l
