use Rattle.pass_laws.proofs.Reaching.{live_one}
use Rattle.pass_laws.proofs.passes.live_names_are_one.Goals as goal

pub returns : goal.returns
returns c = live_one
