use Rattle.pass_laws.proofs.Collecting.{collected-well_formed}
use Rattle.pass_laws.proofs.collections.collections_keep_well_formed.Goals as goal

pub returns : goal.returns
returns c = collected-well_formed
