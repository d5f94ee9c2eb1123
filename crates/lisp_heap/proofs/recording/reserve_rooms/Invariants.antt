use Rattle.std.proofs.Common.{◌≡◌, ◌≤◌, vec_len, vec_capacity}
use Rattle.lisp_heap.specs.AllPasses.{AreRooms}
use Rattle.lisp_heap.proofs.recording.reserve_rooms.Given as goal

abbrev pub invariant-loop-n : goal.invariant-loop-n
invariant-loop-n l = record {
  each : AreRooms l.rooms.items l.sizes;
  len : vec_len l.rooms ≡ l.n;
  room : 6 ≤ vec_capacity l.rooms;
}
