use Rattle.std.proofs.Common.{◌≡◌, ◌≤◌, vec_len, vec_capacity}
use Rattle.lisp_heap.specs.Agreement.{AreFresh}
use Rattle.lisp_heap.proofs.new_world.fresh_parcels.Given as goal

abbrev pub invariant-loop-t : goal.invariant-loop-t
invariant-loop-t l = record {
  fresh : AreFresh l.parcels.items l.t;
  len : vec_len l.parcels ≡ l.t;
  room : l.threads ≤ vec_capacity l.parcels;
}
