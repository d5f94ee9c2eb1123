use Rattle.std.proofs.Common.{◌-◌, ◌*◌, length}
use Rattle.copy_space.specs.State.{state}
use Rattle.scavenge.specs.Fields.{IsSameCopier}
use Rattle.scavenge.specs.Noting.{Notes}
use Rattle.scavenge.specs.Scanning.{Scans, AreScanned}
use Rattle.scavenge.proofs.queue.scan_moves.Given as goal

abbrev pub ghost-scan_object : goal.ghost-scan_object
ghost-scan_object g a = g.a

abbrev pub invariant-loop-moves : goal.invariant-loop-moves
invariant-loop-moves g l = record {
  scans : Scans g.a (state l.fn.copier) (state l.copier);
  scanned : AreScanned g.a (state l.copier) l.weak.listed (record { pins = l.done.pins; moves = l.moves });
  noting : Notes g.a (state l.copier) l.fn.weak l.weak;
  same : IsSameCopier l.fn.copier l.copier;
}

abbrev pub decreases-loop-moves : goal.decreases-loop-moves
decreases-loop-moves g l = 256 * length g.a.pages - l.moves
