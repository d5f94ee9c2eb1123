use Rattle.std.proofs.Common.{◌≡◌, ◌≢◌, ◌<◌, ℕ, true, false}
use Rattle.stop_words.specs.Places.{is_in}
use Rattle.stop_words.specs.Seats.{view_of, is_out, IsSeatOf}
use Rattle.stop_words.specs.declared.view.Place.TheVariants.{Holding}
use Rattle.thread_scripts.proofs.sections.post_to_all.Given as goal

abbrev pub invariant-loop-other : goal.invariant-loop-other
invariant-loop-other l = record {
  seat_of : IsSeatOf l.seat l.words;
  out : is_out l.seat ≡ false;
  thread : (view_of l.seat).thread ≡ (view_of l.initial.seat).thread;
  place : (view_of l.seat).place ≡ Holding;
  posted : (u : ℕ) → u < l.other → u ≢ (view_of l.seat).thread → is_in u (view_of l.seat).posted ≡ true;
}
