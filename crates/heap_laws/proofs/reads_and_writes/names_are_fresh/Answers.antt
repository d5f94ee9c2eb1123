use Rattle.heap_laws.proofs.OneCommand.Names.{fresh_names}
use Rattle.heap_laws.proofs.reads_and_writes.names_are_fresh.Goals as goal

pub returns : goal.returns
returns c = fresh_names
