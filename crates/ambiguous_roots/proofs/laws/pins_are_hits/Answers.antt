use Rattle.ambiguous_roots.proofs.Answered.{answered}
use Rattle.ambiguous_roots.proofs.laws.pins_are_hits.Goals as goal

pub returns : goal.returns
returns c = answered
