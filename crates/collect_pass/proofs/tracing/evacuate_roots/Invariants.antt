use Rattle.copy_space.specs.State.{state}
use Rattle.scavenge.specs.Fields.{IsSameCopier}
use Rattle.collect_pass.proofs.Evacuating.{AreEvacuatedUpTo}
use Rattle.collect_pass.proofs.tracing.evacuate_roots.Given as goal

abbrev pub ghost-evacuate : goal.ghost-evacuate
ghost-evacuate g a = g.h.heap

abbrev pub invariant-loop-word : goal.invariant-loop-word
invariant-loop-word g l = record {
  evacuated : AreEvacuatedUpTo g.h (state l.fn.copier) (state l.copier) l.fn.exact l.exact l.word-index;
  same : IsSameCopier l.fn.copier l.copier;
}
