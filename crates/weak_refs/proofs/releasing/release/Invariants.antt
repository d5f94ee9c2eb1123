use Rattle.std.proofs.Common.{◌-◌, ◌*◌, length}
use Rattle.copy_space.specs.State.{state}
use Rattle.scavenge.specs.Fields.{IsSameCopier}
use Rattle.weak_refs.specs.Readying.{Readies}
use Rattle.weak_refs.proofs.releasing.release.Given as goal

abbrev pub ghost-release_at : goal.ghost-release_at
ghost-release_at g a = g.a

abbrev pub invariant-loop-moves : goal.invariant-loop-moves
invariant-loop-moves g l = record {
  readies : Readies g.a (state l.fn.copier) (state l.copier);
  same : IsSameCopier l.fn.copier l.copier;
}

abbrev pub decreases-loop-moves : goal.decreases-loop-moves
decreases-loop-moves g l = 256 * length g.a.pages - l.moves
