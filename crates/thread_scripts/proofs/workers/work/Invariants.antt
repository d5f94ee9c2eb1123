use Rattle.stop_words.specs.declared.view.Place.TheVariants.{Parked}
use Rattle.thread_scripts.specs.Workers.{IsAt}
use Rattle.thread_scripts.proofs.workers.work.Given as goal

abbrev pub invariant-loop : goal.invariant-loop
invariant-loop g l =
    (goal.iterator-loop g).can_next l.iterator' × (goal.iterator-loop g).is_finite l.iterator' × IsAt l.words l.seat Parked
