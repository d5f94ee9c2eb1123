use Rattle.std.proofs.Common.{◌≡◌, ◌≢◌, ℕ, ◌*◌, ◌<◌, Some}
use Rattle.heap_terms.specs.Heap.{object_at}
use Rattle.heap_terms.specs.Objects.{Object}
use Rattle.copy_space.specs.State.{state}
use Rattle.scavenge.specs.Fields.{IsSameCopier}
use Rattle.scavenge.specs.Noting.{IsDone, Notes}
use Rattle.scavenge.specs.Scanning.{Scans}
use Rattle.scavenge.proofs.older.scavenge_older.Given as goal

abbrev pub ghost-scan_page : goal.ghost-scan_page
ghost-scan_page g a = g.a

abbrev pub invariant-loop-page : goal.invariant-loop-page
invariant-loop-page g l = record {
  scans : Scans g.a (state l.initial.copier) (state l.copier);
  scanned : (name : ℕ) (o : Object) → object_at g.a.objects name ≡ Some o → o.generation ≢ l.initial.copier.pass.generation → o.place < 512 * l.page →
      IsDone g.a (state l.copier) l.weak.listed o;
  noting : Notes g.a (state l.copier) l.initial.weak l.weak;
  same : IsSameCopier l.initial.copier l.copier;
}
