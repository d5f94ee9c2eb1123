use Rattle.std.proofs.Common.{◌-◌, ◌≡◌}
use Rattle.object_walk.specs.Walks.{found_left, IsWalk}
use Rattle.object_walk.proofs.walk.first_object.Given as goal

abbrev pub invariant-loop-index : goal.invariant-loop-index
invariant-loop-index l = record {
  left : found_left l.space l.from l.end ≡ found_left l.space l.index l.end;
  walk : IsWalk l.space l.index l.end;
}

abbrev pub decreases-loop-index : goal.decreases-loop-index
decreases-loop-index l = l.end - l.index
