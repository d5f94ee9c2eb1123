use Rattle.heap_laws.proofs.OneCommand.Cons.{cons_holds}
use Rattle.heap_laws.proofs.reads_and_writes.new_conses_hold_their_operands.Goals as goal

pub returns : goal.returns
returns c = cons_holds
