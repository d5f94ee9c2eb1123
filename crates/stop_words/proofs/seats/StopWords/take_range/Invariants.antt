use Rattle.std.proofs.Common.{◌≡◌, ℕ, ◌+◌, ◌-◌, List, ◌++◌, Option, map, true, false, vec_len, vec_capacity}
use Rattle.stop_words.specs.Hands.{labels, labelled, lying}
use Rattle.stop_words.specs.Owners.{numbers_from}
use Rattle.stop_words.proofs.seats.StopWords.take_range.Given as goal

abbrev pub invariant-loop-slot : goal.invariant-loop-slot
invariant-loop-slot g l = record {
  table : l.seat.table_id ≡ l.initial.seat.table_id;
  view : l.seat.me.0 ≡ l.initial.seat.me.0;
  hand : (tail : List (ℕ × Option ℕ)) → labels g.P.Owned.owner_of l.initial.seat.me.1 ≡ labelled (lying false) l.fn.from (l.fn.to - l.fn.from) ++ tail
      → labels g.P.Owned.owner_of l.seat.me.1 ≡ labelled (lying false) l.slot (l.fn.to - l.slot) ++ (tail ++ labelled (lying true) l.fn.from (l.slot - l.fn.from));
  parcels : (more : List g.row.P.Denot) × (l.into.items ≡ l.initial.into.items ++ more) × (map g.P.Owned.owner_of more ≡ numbers_from l.fn.from (l.slot - l.fn.from));
  count : vec_len l.into ≡ vec_len l.initial.into + (l.slot - l.fn.from);
  room : vec_capacity l.into ≡ vec_capacity l.initial.into;
}
