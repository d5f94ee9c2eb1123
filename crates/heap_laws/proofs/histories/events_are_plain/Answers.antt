use Rattle.heap_laws.proofs.Ranges.PlainEvents.{history_plain}
use Rattle.heap_laws.proofs.histories.events_are_plain.Goals as goal

pub returns : goal.returns
returns c = history_plain
