use Rattle.pass_laws.proofs.Determined.{collection_determined}
use Rattle.pass_laws.proofs.collections.collections_are_determined.Goals as goal

pub returns : goal.returns
returns c = collection_determined
