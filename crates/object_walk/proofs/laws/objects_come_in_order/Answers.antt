use Rattle.object_walk.proofs.InOrder.{first_object, no_object}
use Rattle.object_walk.proofs.laws.objects_come_in_order.Goals as goal

pub returns : goal.returns
returns c = (first_object, no_object)
