use Rattle.pass_laws.proofs.LiveThere.{live_exist}
use Rattle.pass_laws.proofs.passes.live_names_exist.Goals as goal

pub returns : goal.returns
returns c = λ p a g w. live_exist p a g w
