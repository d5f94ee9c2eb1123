use Rattle.heap_laws.proofs.OneCommand.Outcome.{refusal_outcome}
use Rattle.heap_laws.proofs.reads_and_writes.refusals_change_nothing.Goals as goal

pub returns : goal.returns
returns c = refusal_outcome
