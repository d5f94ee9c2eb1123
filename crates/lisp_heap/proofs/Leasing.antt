-- What is built in the regions of a parcel.
use Rattle.std.proofs.Common.{◌≡◌, ◌<◌, length, sym, ◌∙◌, ap, arith, Option, Some, None, option_map}
use Rattle.std.specs.Option.{ForSome}
use Rattle.std.specs.Prelude.{IsSomeAnd}
use Rattle.heap_laws.proofs.Allocating.{size_least}
use Rattle.lisp_heap.specs.Leases.{lease_view, IsLease, IsBuiltThere}
use Rattle.lisp_heap.specs.declared.parcels.Lease.{Lease}
use Rattle.lisp_heap.specs.declared.parcels.Making.{Making}

-- a lease in which an object is built says so
pub built_lease : (o : Option Lease) (l : Lease) (m : Making) → o ≡ Some l → IsSomeAnd (option_map lease_view o) (λ r. r.built ≡ Some m) → l.built ≡ Some m
built_lease None l m e h = cc
built_lease (Some k) l m e h = let same : k ≡ l = cc in ap (λ (x : Lease). x.built) (sym same) ∙ h

-- so its words are there
pub built_there : (o : Option Lease) (l : Lease) (m : Making) → o ≡ Some l → IsSomeAnd (option_map lease_view o) (λ r. r.built ≡ Some m) →
    ForSome o IsLease → IsBuiltThere l m
built_there o l m e h leases = (leases l e).built m (built_lease o l m e h)

-- and are two or more
pub built_some : (l : Lease) (m : Making) → IsBuiltThere l m → 0 < length l.region.built
built_some l m h = let least = size_least m.kind m.n in omega (arith, h.size)
