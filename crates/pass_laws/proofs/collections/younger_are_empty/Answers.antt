use Rattle.pass_laws.proofs.Collecting.{younger-empty}
use Rattle.pass_laws.proofs.collections.younger_are_empty.Goals as goal

pub returns : goal.returns
returns c = younger-empty
