-- An object is scanned by its header, or it is a cons of two fields.
use Rattle.std.specs.Prelude.{slice_index}
use Rattle.std.proofs.Common.{◌≢◌, ◌%◌, ◌∙◌, ap, arith}
use Rattle.copy_space.specs.State.{state}
use Rattle.scavenge.proofs.Frames.{scans-on}
use Rattle.scavenge.proofs.FirstWord.{object-at_inside, cons-first, cons-second, cons-scanned}
use Rattle.scavenge.proofs.NotedObjects.{cons-done}
use Rattle.scavenge.proofs.NotedStarts.{notes-later}
use Rattle.scavenge.proofs.objects.scan_object.Goals as goal

pub read-requires : goal.read-requires
read-requires g c = (let inside = object-at_inside g.a (state c.args.copier.now) c.args.index c.requires.0 in rw c.space.ensures (omega arith))

pub scan_field-requires : goal.scan_field-requires
scan_field-requires g c = cons-first g.a (state c.args.copier.now) c.args.index c.requires.0
    (let read = rw c.space.ensures at c.read.ensures in λ one. c.if-read-eq1.false (ap (λ w. w % 4) read ∙ one))

pub overflow_add-index : goal.overflow_add-index
overflow_add-index g c =
    let inside = object-at_inside g.a (state c.args.copier.now) c.args.index c.requires.0 in
    let long = c.requires.0.midway.places.long in
    let most = c.requires.0.midway.places.most in
    omega arith

pub scan_field-requires-else-read-eq1 : goal.scan_field-requires-else-read-eq1
scan_field-requires-else-read-eq1 g c = cons-second g.a (state c.args.copier.now) (state c.scan_field.new.copier) c.args.index c.requires.0
    (let read = rw c.space.ensures at c.read.ensures in λ one. c.if-read-eq1.false (ap (λ w. w % 4) read ∙ one)) c.scan_field.ensures.scans

pub returns-else-read-eq1-clause-scans : goal.returns-else-read-eq1-clause-scans
returns-else-read-eq1-clause-scans g c =
    scans-on g.a (state c.args.copier.now) (state c.scan_field.new.copier) (state c.scan_field-else-read-eq1.new.copier) c.scan_field.ensures.scans c.scan_field-else-read-eq1.ensures.scans

pub returns-else-read-eq1-clause-scanned : goal.returns-else-read-eq1-clause-scanned
returns-else-read-eq1-clause-scanned g c =
    let other : slice_index (state c.args.copier.now).words c.args.index % 4 ≢ 1 = (let read = rw c.space.ensures at c.read.ensures in λ one. c.if-read-eq1.false (ap (λ w. w % 4) read ∙ one)) in
    cons-done g.a (state c.args.copier.now) (state c.scan_field-else-read-eq1.new.copier) c.args.weak.now.listed c.args.index c.requires.0 other
    (cons-scanned g.a (state c.args.copier.now) (state c.scan_field.new.copier) (state c.scan_field-else-read-eq1.new.copier) c.args.index c.requires.0 other
    c.scan_field.ensures.scans c.scan_field-else-read-eq1.ensures.scans c.scan_field.ensures.new c.scan_field-else-read-eq1.ensures.new)

pub returns-else-read-eq1-clause-noting : goal.returns-else-read-eq1-clause-noting
returns-else-read-eq1-clause-noting g c =
    let both = scans-on g.a (state c.args.copier.now) (state c.scan_field.new.copier) (state c.scan_field-else-read-eq1.new.copier) c.scan_field.ensures.scans c.scan_field-else-read-eq1.ensures.scans in
    notes-later g.a (state c.args.copier.now) (state c.scan_field-else-read-eq1.new.copier) c.args.weak.now both.follows.grows c.requires.1
