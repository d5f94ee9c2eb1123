use Rattle.std.proofs.Common.{◌≡◌, map, vec_len, vec_capacity}
use Rattle.std.specs.List.{range_with_len}
use Rattle.pass_names.specs.Places.{place_in}
use Rattle.pass_names.proofs.places.list_places.Given as goal

abbrev pub invariant-loop-note : goal.invariant-loop-note
invariant-loop-note l = record {
  items : l.places.items ≡ map (place_in l.labels l.notes) (range_with_len 0 l.note-index);
  len : vec_len l.places ≡ l.note-index;
  room : vec_capacity l.places ≡ vec_capacity l.fn.places;
}
