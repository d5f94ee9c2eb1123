use Rattle.std.proofs.Common.{◌≡◌, ℕ, ◌-◌, List, ◌++◌, Option, map, reverse, length, true, vec_capacity}
use Rattle.stop_words.specs.Hands.{labels, labelled, lying}
use Rattle.stop_words.specs.Owners.{numbers_from}
use Rattle.stop_words.specs.Gathers.{PutBack}
use Rattle.stop_words.proofs.seats.StopWords.put_range.Given as goal

abbrev pub invariant-loop-slot : goal.invariant-loop-slot
invariant-loop-slot g l = record {
  table : l.seat.table_id ≡ l.initial.seat.table_id;
  steps : PutBack l.fn.from l.slot l.initial.seat.me.0 l.seat.me.0;
  hand : (tail : List (ℕ × Option ℕ)) → labels g.P.Owned.owner_of l.initial.seat.me.1 ≡ labelled (lying true) l.fn.from (l.fn.to - l.fn.from) ++ tail
      → labels g.P.Owned.owner_of l.seat.me.1 ≡ labelled (lying true) l.slot (l.fn.to - l.slot) ++ tail;
  parcels : (more : List ℕ) → reverse (map g.P.Owned.owner_of l.initial.parcels.items) ≡ numbers_from l.fn.from (l.fn.to - l.fn.from) ++ more
      → reverse (map g.P.Owned.owner_of l.parcels.items) ≡ numbers_from l.slot (l.fn.to - l.slot) ++ more;
  put : (put : List g.row.P.Denot) × (l.initial.parcels.items ≡ l.parcels.items ++ put) × (length put ≡ l.slot - l.fn.from);
  room : vec_capacity l.parcels ≡ vec_capacity l.initial.parcels;
}
