use Rattle.machine_laws.proofs.Steps.{alone}
use Rattle.machine_laws.proofs.collectors_are_alone.Goals as goal

pub returns : goal.returns
returns c = alone
