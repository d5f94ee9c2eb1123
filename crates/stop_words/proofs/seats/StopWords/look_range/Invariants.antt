use Rattle.std.proofs.Common.{◌≡◌}
use Rattle.stop_words.specs.Seats.{view_of, is_out}
use Rattle.stop_words.specs.Looks.{SeenTo}
use Rattle.stop_words.proofs.seats.StopWords.look_range.Given as goal

abbrev pub invariant-loop-other : goal.invariant-loop-other
invariant-loop-other g l = record {
  table : l.seat.seat.table_id ≡ l.initial.seat.seat.table_id;
  out : is_out l.seat ≡ is_out l.initial.seat;
  seen : SeenTo l.fn.from l.other (view_of l.initial.seat) (view_of l.seat);
}
