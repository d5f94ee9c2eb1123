use Rattle.std.proofs.Common.{◌-◌}
use Rattle.copy_space.specs.State.{state}
use Rattle.scavenge.specs.Fields.{AreNew, IsSameCopier}
use Rattle.scavenge.specs.Scanning.{Scans}
use Rattle.scavenge.proofs.fields.scan_fields.Given as goal

abbrev pub ghost-scan_field : goal.ghost-scan_field
ghost-scan_field g a = g.a

abbrev pub invariant-loop-index : goal.invariant-loop-index
invariant-loop-index g l = record {
  scans : Scans g.a (state l.fn.copier) (state l.copier);
  new : AreNew g.a (state l.fn.copier) (state l.copier) l.from (l.index - l.from);
  same : IsSameCopier l.fn.copier l.copier;
}
