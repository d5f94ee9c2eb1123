use Rattle.std.proofs.Common.{◌≡◌, ◌++◌, map, take, drop}
use Rattle.lisp_heap.specs.ParcelView.{ParcelView, empty_parcel}
use Rattle.lisp_heap.proofs.collecting.close_parcels.Given as goal

abbrev pub invariant-loop-parcel : goal.invariant-loop-parcel
invariant-loop-parcel l = l.parcels ≡ map (λ (q : ParcelView). empty_parcel q.owner) (take l.parcel-index l.initial.parcels) ++ drop l.parcel-index l.initial.parcels
