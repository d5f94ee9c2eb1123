use Rattle.copy_space.specs.State.{state}
use Rattle.scavenge.specs.Fields.{IsSameCopier}
use Rattle.weak_refs.specs.Readying.{Readies}
use Rattle.weak_refs.proofs.releasing.release_at.Given as goal

abbrev pub ghost-ready_side : goal.ghost-ready_side
ghost-ready_side g a = g.a

abbrev pub invariant-loop : goal.invariant-loop
invariant-loop g l = record {
  readies : Readies g.a (state l.fn.copier) (state l.copier);
  same : IsSameCopier l.fn.copier l.copier;
}
