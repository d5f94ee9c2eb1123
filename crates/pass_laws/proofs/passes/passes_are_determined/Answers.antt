use Rattle.pass_laws.proofs.Determined.{pass_determined}
use Rattle.pass_laws.proofs.passes.passes_are_determined.Goals as goal

pub returns : goal.returns
returns c = pass_determined
