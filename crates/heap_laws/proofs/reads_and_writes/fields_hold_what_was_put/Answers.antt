use Rattle.heap_laws.proofs.OneCommand.Put.{read_after_put}
use Rattle.heap_laws.proofs.reads_and_writes.fields_hold_what_was_put.Goals as goal

pub returns : goal.returns
returns c = read_after_put
