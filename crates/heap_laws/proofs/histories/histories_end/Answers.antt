use Rattle.heap_laws.proofs.Termination.EventsLeft.{all_left_falls, history_short, events_few}
use Rattle.heap_laws.proofs.histories.histories_end.Goals as goal

pub returns : goal.returns
returns c = (λ p a e limits w next. all_left_falls p a e limits w next, history_short, events_few)
