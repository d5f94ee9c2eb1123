use Rattle.std.proofs.Common.{◌≡◌}
use Rattle.copy_space.specs.State.{state}
use Rattle.weak_refs.specs.Culling.{IsCleared, SameButCulled}
use Rattle.weak_refs.specs.Rewriting.{HasSameParts}
use Rattle.weak_refs.proofs.culling.clear.Given as goal

abbrev pub invariant-loop-index : goal.invariant-loop-index
invariant-loop-index g l = record {
  cleared : IsCleared g.a (state l.fn.copier) (state l.copier) l.from l.index;
  culls : l.copier.notes.now.culls ≡ l.fn.copier.notes.now.culls;
  notes : SameButCulled l.fn.copier.notes.now l.copier.notes.now;
  parts : HasSameParts l.fn.copier l.copier;
}
