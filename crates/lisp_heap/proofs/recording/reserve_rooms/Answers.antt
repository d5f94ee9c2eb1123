-- One room more.
use Rattle.std.proofs.Common.{◌∷◌, ◌++◌, [], sym, subst, arith}
use Rattle.std.proofs.lemmas.List.Elements.{All-push}
use Rattle.lisp_heap.specs.AllPasses.{AreRooms}
use Rattle.lisp_heap.specs.Recording.{HasRoom}
use Rattle.lisp_heap.specs.declared.recording.RecordRoom.{RecordRoom}
use Rattle.lisp_heap.proofs.recording.reserve_rooms.Goals as goal

pub loop-n-preserved : goal.loop-n-preserved
loop-n-preserved c =
    let fits : HasRoom c.in_ok-room_for.field-0 c.args.sizes = c.in_ok-room_for.ensures in
    let all : AreRooms (c.loop-n.rooms.items ++ c.in_ok-room_for.field-0 ∷ []) c.args.sizes =
    All-push (λ (room : RecordRoom). HasRoom room c.args.sizes) c.loop-n.rooms.items c.in_ok-room_for.field-0 c.loop-n.invariant.each fits in
    record {
      each = subst (λ rooms. AreRooms rooms c.args.sizes) (sym c.push_reserved.ensures.items) all;
      len = omega arith;
      room = omega arith;
    }
