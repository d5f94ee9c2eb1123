use Rattle.std.proofs.Common.{◌≡◌}
use Rattle.copy_space.specs.State.{state}
use Rattle.scavenge.specs.Fields.{IsSameCopier}
use Rattle.weak_refs.specs.Readying.{Readies, HasSameMoves, AreReady}
use Rattle.weak_refs.proofs.readying.ready_all.Given as goal

abbrev pub ghost-ready_at : goal.ghost-ready_at
ghost-ready_at g a = g.a

abbrev pub invariant-loop-i : goal.invariant-loop-i
invariant-loop-i g l = record {
  readies : Readies g.a (state l.fn.copier) (state l.copier);
  ready : l.from ≡ 0 → HasSameMoves (state l.fn.copier) (state l.copier) → AreReady g.a (state l.copier) l.weak.listed l.i;
  same : IsSameCopier l.fn.copier l.copier;
}
