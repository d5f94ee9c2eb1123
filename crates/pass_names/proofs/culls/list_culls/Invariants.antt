use Rattle.std.proofs.Common.{◌≡◌, List, map, take, vec_len, vec_capacity}
use Rattle.heap_terms.specs.declared.events.Cull.{Cull}
use Rattle.pass_names.specs.Noted.{AreNotesOf, cull_at}
use Rattle.pass_names.proofs.culls.list_culls.Given as goal

abbrev pub invariant-loop-place : goal.invariant-loop-place
invariant-loop-place l = record {
  items : (cs : List Cull) → AreNotesOf l.labels cs l.notes → l.culls.items ≡ map (cull_at cs) (take l.place-index l.places);
  len : vec_len l.culls ≡ l.place-index;
  room : vec_capacity l.culls ≡ vec_capacity l.fn.culls;
}
