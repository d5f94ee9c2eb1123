-- The parcels so far are empty, and the rest are as they were.
use Rattle.std.proofs.Common.{◌<◌, length, arith, ap, ◌∙◌, get_or, set}
use Rattle.std.proofs.lemmas.List.{get_or_default}
use Rattle.std.proofs.lemmas.List.Edits.{map_over_more}
use Rattle.lisp_heap.specs.ParcelView.{ParcelView, empty_parcel}
use Rattle.lisp_heap.proofs.collecting.close_parcels.Goals as goal

pub loop-parcel-preserved : goal.loop-parcel-preserved
loop-parcel-preserved c =
    let i = c.loop-parcel.parcel-index in
    let there : i < length c.loop-parcel.parcels = omega arith in
    let x = get_or c.loop-parcel.parcels i c.parcel-item.result in
    ap (set c.loop-parcel.parcels i) c.close_all.ensures
    ∙ map_over_more (λ (q : ParcelView). empty_parcel q.owner) c.args.parcels.now c.loop-parcel.parcels i x c.loop-parcel-test.true c.loop-parcel.invariant
    (get_or_default c.loop-parcel.parcels i c.parcel-item.result x there)
