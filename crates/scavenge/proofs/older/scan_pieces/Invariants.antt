use Rattle.std.proofs.Common.{◌-◌, ◌*◌, ◌<◌, ◌≤◌}
use Rattle.copy_space.specs.State.{state}
use Rattle.scavenge.specs.Fields.{IsSameCopier}
use Rattle.scavenge.specs.Older.{IsEdge, AreObjectsScanned}
use Rattle.scavenge.specs.Noting.{Notes}
use Rattle.scavenge.specs.Scanning.{Scans}
use Rattle.scavenge.proofs.older.scan_pieces.Given as goal

abbrev pub ghost-scan_piece : goal.ghost-scan_piece
ghost-scan_piece g a = g.a

abbrev pub invariant-loop-index : goal.invariant-loop-index
invariant-loop-index g l = record {
  scans : Scans g.a (state l.fn.copier) (state l.copier);
  from : 512 * l.page ≤ l.index;
  edge : l.index < l.end → IsEdge g.a l.index;
  scanned : AreObjectsScanned g.a (state l.copier) l.weak.listed (512 * l.page) l.index;
  noting : Notes g.a (state l.copier) l.fn.weak l.weak;
  same : IsSameCopier l.fn.copier l.copier;
}

abbrev pub decreases-loop-index : goal.decreases-loop-index
decreases-loop-index g l = l.end - l.index
