use Rattle.heap_laws.proofs.Progress.NextEvent.{someone_next}
use Rattle.heap_laws.proofs.histories.histories_go_on.Goals as goal

pub returns : goal.returns
returns c = someone_next
