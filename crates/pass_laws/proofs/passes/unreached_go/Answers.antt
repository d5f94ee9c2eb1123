use Rattle.pass_laws.proofs.Reaching.{unreached_go}
use Rattle.pass_laws.proofs.passes.unreached_go.Goals as goal

pub returns : goal.returns
returns c = unreached_go
