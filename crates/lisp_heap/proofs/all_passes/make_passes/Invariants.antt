-- The passes so far were made, and the planned one follows.
use Rattle.std.proofs.Common.{◌≡◌, ◌+◌, ◌≤◌, length, vec_len, vec_capacity}
use Rattle.finalizers.specs.Standing.{FinalizersStand}
use Rattle.heap_terms.specs.Collections.{after_passes}
use Rattle.lisp_heap.specs.AllPasses.{AreRooms, IsPlanned, Stand}
use Rattle.lisp_heap.specs.Recording.{sizes_of}
use Rattle.lisp_heap.proofs.PassesSoFar.{rooted_now}
use Rattle.lisp_heap.proofs.all_passes.make_passes.Given as goal

abbrev pub ghost-make_next : goal.ghost-make_next
ghost-make_next g a = rooted_now g.h a.last a.passes.now.items

abbrev pub invariant-loop-planned : goal.invariant-loop-planned
invariant-loop-planned g l = record {
  stand : Stand g.h l.last l.space l.pages l.labels l.scratch.roots.exact.items l.scratch.roots.ambiguous.items l.stats l.passes.items;
  planned : IsPlanned g.h.heap l.last l.passes.items l.planned;
  ambiguous : l.scratch.roots.ambiguous.items ≡ l.fn.scratch.roots.ambiguous.items;
  room_pages : l.scratch.room.pages ≡ l.fn.scratch.room.pages;
  room_ambiguous : l.scratch.room.ambiguous ≡ l.fn.scratch.room.ambiguous;
  room_weak : l.scratch.room.weak ≡ l.fn.scratch.room.weak;
  finalizers : FinalizersStand (after_passes g.h.heap l.last 0 l.passes.items) l.finalizers;
  fewer : length l.finalizers.registered ≤ length l.fn.finalizers.registered;
  room_queued : l.scratch.room.queued ≡ l.fn.scratch.room.queued;
  rooms : AreRooms l.rooms.items (sizes_of g.h.heap (length l.fn.scratch.roots.ambiguous.items));
  left : vec_len l.rooms + vec_len l.passes ≡ 6;
  capacity : 6 ≤ vec_capacity l.passes;
}

abbrev pub decreases-loop-planned : goal.decreases-loop-planned
decreases-loop-planned g l = vec_len l.rooms
