use Rattle.pass_names.proofs.Placed.{in_order}
use Rattle.pass_names.proofs.places.sort_places.Goals as goal

pub returns-clause-sorted : goal.returns-clause-sorted
returns-clause-sorted c = in_order c.sort_unstable.new.self.items c.sort_unstable.ensures.sorted
