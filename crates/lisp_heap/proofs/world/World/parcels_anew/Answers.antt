use Rattle.std.proofs.Common.{◌∙◌, map, sym, subst, ap, List, arith}
use Rattle.std.specs.Prelude.{All}
use Rattle.lisp_heap.specs.Agreement.{Agrees}
use Rattle.lisp_heap.specs.ParcelView.{ParcelView}
use Rattle.lisp_heap.specs.Ready.{owner_of}
use Rattle.lisp_heap.specs.View.{heap_of}
use Rattle.lisp_heap.proofs.ParcelLists.{owners_push, all_push}
use Rattle.lisp_heap.proofs.world.World.parcels_anew.Goals as goal

pub loop-t-preserved : goal.loop-t-preserved
loop-t-preserved c =
    let i = c.loop-t.invariant in
    let q = c.in-Ok.parcel in
    record {
      owners = ap (λ (xs : List ParcelView). map owner_of xs) c.push_reserved.ensures.items ∙ owners_push c.loop-t.parcels.items q c.loop-t.t i.owners c.in-Ok.ensures.owner;
      agree = subst (λ (xs : List ParcelView). All (Agrees (heap_of c.args.self.now)) xs) (sym c.push_reserved.ensures.items)
          (all_push (Agrees (heap_of c.args.self.now)) c.loop-t.parcels.items q i.agree c.in-Ok.ensures.agrees);
      len = (let long = c.push_reserved.ensures.len in let before = i.len in omega arith);
      room = (let same = c.push_reserved.ensures.capacity in let before = i.room in omega arith);
    }
