use Rattle.object_walk.proofs.HeapWalks.{walk_meets_objects}
use Rattle.object_walk.proofs.laws.walks_meet_the_objects.Goals as goal

pub returns : goal.returns
returns c = walk_meets_objects
