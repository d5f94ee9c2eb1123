-- Evacuation settles the side and nothing else.
use Rattle.copy_space.specs.State.{state}
use Rattle.weak_refs.proofs.Readies.{side-readies}
use Rattle.weak_refs.proofs.readying.settle_fresh.Goals as goal

pub returns-clause-readies : goal.returns-clause-readies
returns-clause-readies g c = side-readies g.a (state c.args.copier.now) (state c.evacuate.new.self) c.args.side c.evacuate.result c.requires c.evacuate.ensures.evacuates
