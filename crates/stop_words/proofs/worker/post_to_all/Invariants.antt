use Rattle.std.proofs.Common.{◌≡◌, ◌≢◌, ◌<◌, ℕ, true}
use Rattle.stop_words.specs.Places.{is_in}
use Rattle.stop_words.specs.Seats.{view_of, is_out}
use Rattle.stop_words.specs.declared.view.Place.TheVariants.{Holding}
use Rattle.stop_words.proofs.worker.post_to_all.Given as goal

abbrev pub invariant-loop-other : goal.invariant-loop-other
invariant-loop-other g l = record {
  table : l.seat.seat.table_id ≡ l.initial.seat.seat.table_id;
  out : is_out l.seat ≡ is_out l.initial.seat;
  thread : (view_of l.seat).thread ≡ (view_of l.initial.seat).thread;
  place : (view_of l.seat).place ≡ Holding;
  posted : (u : ℕ) → u < l.other → u ≢ (view_of l.seat).thread → is_in u (view_of l.seat).posted ≡ true;
}
