use Rattle.pass_laws.proofs.Reaching.{pinned_stay}
use Rattle.pass_laws.proofs.passes.pinned_stay.Goals as goal

pub returns : goal.returns
returns c = pinned_stay
