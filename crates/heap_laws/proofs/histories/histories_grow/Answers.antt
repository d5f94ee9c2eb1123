use Rattle.heap_laws.proofs.Events.Appending.{Lawful-push, replay-push}
use Rattle.heap_laws.proofs.histories.histories_grow.Goals as goal

pub returns : goal.returns
returns c = λ p h e lawful next. (Lawful-push p h e lawful next, replay-push p h e)
