-- By the history.
use Rattle.pair_laws.proofs.Counting.{pairs_few}
use Rattle.pair_laws.proofs.counts.pairs_are_few.Goals as goal

pub returns : goal.returns
returns c = pairs_few
