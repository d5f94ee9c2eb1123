use Rattle.std.proofs.Common.{◌≡◌, ◌+◌, ◌++◌, map, take, vec_len, vec_capacity}
use Rattle.lisp_heap.specs.Recording.{placing_by}
use Rattle.lisp_heap.proofs.recording.add_moves.Given as goal

abbrev pub invariant-loop-m : goal.invariant-loop-m
invariant-loop-m l = record {
  items : l.out.items ≡ l.fn.out.items ++ map (placing_by l.labels) (take l.m-index l.moves);
  len : vec_len l.out ≡ vec_len l.fn.out + l.m-index;
  room : vec_capacity l.out ≡ vec_capacity l.fn.out;
}
