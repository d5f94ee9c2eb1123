use Rattle.pass_laws.proofs.Reaching.{fields_stay}
use Rattle.pass_laws.proofs.passes.fields_stay.Goals as goal

pub returns : goal.returns
returns c = λ a g h r name o q pass at after vs e. fields_stay a r name o q at after vs e
