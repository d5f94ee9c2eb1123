-- A field is evacuated, and written where its word changed.
use Rattle.std.proofs.Common.{sym, subst}
use Rattle.copy_space.specs.State.{CopyState, state}
use Rattle.scavenge.specs.Fields.{AreNew}
use Rattle.scavenge.proofs.OneField.{can-evacuate, scans-evacuated, new-unchanged, scans-written, new-written}
use Rattle.scavenge.proofs.fields.scan_field.Goals as goal

pub evacuate-now-requires : goal.evacuate-now-requires
evacuate-now-requires g c = can-evacuate g.a (state c.args.copier.now) c.args.index c.read-word.result c.requires (rw c.space.ensures at c.read-word.ensures)

pub returns-then-now-word-clause-scans : goal.returns-then-now-word-clause-scans
returns-then-now-word-clause-scans g c =
    rw c.write.ensures.words (scans-written g.a (state c.args.copier.now) (state c.evacuate-now.new.self) c.args.index c.read-word.result c.evacuate-now.result c.requires
    (rw c.space.ensures at c.read-word.ensures) c.evacuate-now.ensures.evacuates)

pub returns-then-now-word-clause-new : goal.returns-then-now-word-clause-new
returns-then-now-word-clause-new g c =
    subst (λ (u : CopyState). AreNew g.a (state c.args.copier.now) u c.args.index 1) (sym c.write.ensures.words)
    (new-written g.a (state c.args.copier.now) (state c.evacuate-now.new.self) c.args.index c.read-word.result c.evacuate-now.result c.requires
    (rw c.space.ensures at c.read-word.ensures) c.evacuate-now.ensures.evacuates)

pub returns-else-now-word-clause-scans : goal.returns-else-now-word-clause-scans
returns-else-now-word-clause-scans g c =
    scans-evacuated g.a (state c.args.copier.now) (state c.evacuate-now.new.self) c.args.index c.read-word.result c.evacuate-now.result c.requires
    (rw c.space.ensures at c.read-word.ensures) c.evacuate-now.ensures.evacuates

pub returns-else-now-word-clause-new : goal.returns-else-now-word-clause-new
returns-else-now-word-clause-new g c =
    new-unchanged g.a (state c.args.copier.now) (state c.evacuate-now.new.self) c.args.index c.read-word.result c.evacuate-now.result c.requires
    (rw c.space.ensures at c.read-word.ensures) c.evacuate-now.ensures.evacuates c.if-now-word.false
