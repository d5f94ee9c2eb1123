use Rattle.machine_laws.proofs.Complete.{many_orderly}
use Rattle.machine_laws.proofs.many_turns_keep_order.Goals as goal

pub returns : goal.returns
returns c = many_orderly
