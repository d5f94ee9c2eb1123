-- What every parcel keeps true.
use Rattle.std.specs.Prelude.{option_map}
use Rattle.std.specs.Option.{ForSome}
use Rattle.heap_terms.specs.declared.kinds.PageType.TheVariants as types
use Rattle.lisp_heap.specs.Leases.{lease_view, IsLease, IsSmallLease}
use Rattle.lisp_heap.specs.ParcelView.{ParcelView}
use Rattle.lisp_heap.specs.declared.parcels.Parcel.TheInside.{Inside}

abbrev pub parcel_view : Inside → ParcelView
parcel_view s = record {
  owner = s.owner;
  cons = option_map lease_view s.cons;
  boxed = option_map lease_view s.boxed;
  unboxed = option_map lease_view s.unboxed;
  run = option_map lease_view s.run;
}

-- its small regions are of their types, and each says what is built there
pub record IsParcel (s : Inside) : Type 0 where
  pub cons : ForSome s.cons (IsSmallLease types.Cons)
  pub boxed : ForSome s.boxed (IsSmallLease types.Boxed)
  pub unboxed : ForSome s.unboxed (IsSmallLease types.Unboxed)
  pub run : ForSome s.run IsLease
