use Rattle.std.proofs.Common.{◌≡◌, ◌≤◌, [], replicate, vec_len, vec_capacity}
use Rattle.lisp_heap.proofs.pins.Pins.none.Given as goal

abbrev pub invariant-loop-t : goal.invariant-loop-t
invariant-loop-t l = record {
  empty : l.stacks.items ≡ replicate l._t [];
  len : vec_len l.stacks ≡ l._t;
  room : l.threads ≤ vec_capacity l.stacks;
}
