use Rattle.heap_laws.proofs.Progress.NextEvent.{free_next}
use Rattle.heap_laws.proofs.histories.threads_go_on.Goals as goal

pub returns : goal.returns
returns c = free_next
