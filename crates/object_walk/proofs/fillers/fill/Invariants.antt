use Rattle.std.proofs.Common.{◌-◌, ◌≡◌}
use Rattle.object_walk.specs.Fillers.{with_fillers}
use Rattle.object_walk.proofs.fillers.fill.Given as goal

abbrev pub invariant-loop-index : goal.invariant-loop-index
invariant-loop-index l = l.space ≡ with_fillers l.fn.space l.fn.from (l.index - l.fn.from)
