use Rattle.heap_laws.proofs.WellFormed.Replayed.{event-kept}
use Rattle.heap_laws.proofs.heaps.events_keep_heaps.Goals as goal

pub returns : goal.returns
returns c = λ p a e limits w next. event-kept p limits a e next w
