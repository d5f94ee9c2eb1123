use Rattle.heap_laws.proofs.Progress.Completion.{completed}
use Rattle.heap_laws.proofs.histories.histories_complete.Goals as goal

pub returns : goal.returns
returns c = completed
