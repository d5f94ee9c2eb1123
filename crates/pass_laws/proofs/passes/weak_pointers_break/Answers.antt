use Rattle.pass_laws.proofs.Reaching.{weak_pointers}
use Rattle.pass_laws.proofs.passes.weak_pointers_break.Goals as goal

pub returns : goal.returns
returns c = λ a g h r name o q v pass at weak after. weak_pointers a r name o q v at weak after
