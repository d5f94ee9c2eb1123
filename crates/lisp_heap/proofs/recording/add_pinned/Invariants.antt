use Rattle.std.proofs.Common.{◌≡◌, ◌+◌, ◌++◌, map, take, vec_len, vec_capacity}
use Rattle.lisp_heap.specs.Recording.{pin_by}
use Rattle.lisp_heap.proofs.recording.add_pinned.Given as goal

abbrev pub invariant-loop-index : goal.invariant-loop-index
invariant-loop-index l = record {
  items : l.out.items ≡ l.fn.out.items ++ map (pin_by l.labels) (take l.index-index l.indices);
  len : vec_len l.out ≡ vec_len l.fn.out + l.index-index;
  room : vec_capacity l.out ≡ vec_capacity l.fn.out;
}
