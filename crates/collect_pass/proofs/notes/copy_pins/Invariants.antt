use Rattle.std.proofs.Common.{◌≡◌, take, vec_capacity}
use Rattle.collect_pass.proofs.notes.copy_pins.Given as goal

abbrev pub invariant-loop-i : goal.invariant-loop-i
invariant-loop-i l = record {
  copied : l.list.items ≡ take l.i l.pins.listed;
  capacity : vec_capacity l.list ≡ vec_capacity l.fn.list;
}
