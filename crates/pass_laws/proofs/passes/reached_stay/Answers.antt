use Rattle.pass_laws.proofs.Reaching.{reached_stay}
use Rattle.pass_laws.proofs.passes.reached_stay.Goals as goal

pub returns : goal.returns
returns c = reached_stay
