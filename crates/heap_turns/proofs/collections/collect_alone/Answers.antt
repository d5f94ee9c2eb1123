use Rattle.heap_turns.proofs.Collects.{by_owner, ready_again}
use Rattle.heap_turns.proofs.collections.collect_alone.Goals as goal

pub collect-requires-clause-owners : goal.collect-requires-clause-owners
collect-requires-clause-owners c = by_owner c.args.world.now c.args.parcels.now c.requires.ready

pub returns-in-Ok-clause-ready : goal.returns-in-Ok-clause-ready
returns-in-Ok-clause-ready c = ready_again c.collect.new.self c.collect.new.parcels c.in-Ok.ensures.ready
