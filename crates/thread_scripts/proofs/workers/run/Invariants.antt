use Rattle.std.proofs.Common.{◌≡◌}
use Rattle.stop_words.specs.Seats.{view_of}
use Rattle.stop_words.specs.declared.view.Place.TheVariants.{Outside}
use Rattle.thread_scripts.specs.Workers.{IsAt}
use Rattle.thread_scripts.proofs.workers.run.Given as goal

abbrev pub invariant-loop : goal.invariant-loop
invariant-loop g l =
    (goal.iterator-loop g).can_next l.iterator' × (goal.iterator-loop g).is_finite l.iterator' × record {
      seat : IsAt l.words l.seat Outside;
      own : l.own.owner ≡ (view_of l.seat).thread;
    }
