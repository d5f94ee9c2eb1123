use Rattle.std.proofs.Common.{◌≡◌, ◌≤◌, map, vec_len, vec_capacity}
use Rattle.std.specs.Prelude.{All}
use Rattle.std.specs.List.{range_with_len}
use Rattle.lisp_heap.specs.Agreement.{Agrees}
use Rattle.lisp_heap.specs.Ready.{owner_of}
use Rattle.lisp_heap.specs.View.{heap_of}
use Rattle.lisp_heap.proofs.world.World.parcels_anew.Given as goal

abbrev pub invariant-loop-t : goal.invariant-loop-t
invariant-loop-t l = record {
  owners : map owner_of l.parcels.items ≡ range_with_len 0 l.t;
  agree : All (Agrees (heap_of l.self)) l.parcels.items;
  len : vec_len l.parcels ≡ l.t;
  room : l.threads ≤ vec_capacity l.parcels;
}
