use Rattle.machine_laws.proofs.FitsKept.{turn_orderly}
use Rattle.machine_laws.proofs.Rounds.{start_orderly}
use Rattle.machine_laws.proofs.turns_keep_order.Goals as goal

pub returns : goal.returns
returns c = (start_orderly, turn_orderly)
