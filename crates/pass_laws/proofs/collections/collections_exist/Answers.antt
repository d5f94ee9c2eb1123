use Rattle.pass_laws.proofs.Collecting.{collection_exists}
use Rattle.pass_laws.proofs.collections.collections_exist.Goals as goal

pub returns : goal.returns
returns c = collection_exists
