use Rattle.pass_laws.proofs.PassExists.{pass_exists}
use Rattle.pass_laws.proofs.passes.passes_exist.Goals as goal

pub returns : goal.returns
returns c = pass_exists
