use Rattle.pass_laws.proofs.Spreading.{placement-spread}
use Rattle.pass_laws.proofs.passes.placements_keep_layout.Goals as goal

pub returns : goal.returns
returns c = placement-spread
