use Rattle.std.proofs.Common.{◌≡◌, ◌≤◌, [], vec_capacity}
use Rattle.stop_words.specs.Seats.{view_of, threads_of}
use Rattle.stop_words.specs.Views.{PostedToAll}
use Rattle.stop_words.specs.declared.view.Place.TheVariants.{Holding}
use Rattle.thread_scripts.specs.Workers.{IsAt}
use Rattle.thread_scripts.proofs.sections.gather.Given as goal

abbrev pub invariant-loop : goal.invariant-loop
invariant-loop g l =
    (goal.iterator-loop g).can_next l.iterator' × (goal.iterator-loop g).is_finite l.iterator' × record {
      seat : IsAt l.words l.seat Holding;
      posted : PostedToAll (view_of l.seat) (threads_of l.words);
      thread : (view_of l.seat).thread ≡ (view_of l.initial.seat).thread;
      own : l.hand.0.owner ≡ (view_of l.seat).thread;
      empty : l.hand.1.items ≡ [];
      room : threads_of l.words ≤ vec_capacity l.hand.1;
    }
