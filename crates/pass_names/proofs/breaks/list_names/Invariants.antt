use Rattle.std.proofs.Common.{◌≡◌, map, take, vec_len, vec_capacity}
use Rattle.pass_names.specs.Labelled.{label_at}
use Rattle.pass_names.proofs.breaks.list_names.Given as goal

abbrev pub invariant-loop-index : goal.invariant-loop-index
invariant-loop-index l = record {
  items : l.names.items ≡ map (label_at l.labels) (take l.index-index l.notes);
  len : vec_len l.names ≡ l.index-index;
  room : vec_capacity l.names ≡ vec_capacity l.fn.names;
}
