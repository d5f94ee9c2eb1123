-- The fields behind a header are scanned; a weak pointer or table is noted.
use Rattle.copy_space.specs.State.{state}
use Rattle.scavenge.proofs.FirstWord.{fields-behind, headed-scanned}
use Rattle.scavenge.proofs.NotedObjects.{strong-done, weak-done, weak-here}
use Rattle.scavenge.proofs.NotedStarts.{notes-later, put-in, put-there, room-for, room-small}
use Rattle.scavenge.proofs.objects.scan_headed.Goals as goal

pub note-requires-clause-room : goal.note-requires-clause-room
note-requires-clause-room g c =
    let here = weak-here g.a (state c.args.copier.now) c.args.index c.read-header.result c.requires.0 (rw c.space.ensures at c.read-header.ensures) c.is_weak.result c.is_weak.ensures c.if-is_weak.true in
    room-for g.a (state c.args.copier.now) c.args.weak.now c.requires.0.midway c.requires.1 c.args.index here

pub note-requires-clause-small : goal.note-requires-clause-small
note-requires-clause-small g c =
    let here = weak-here g.a (state c.args.copier.now) c.args.index c.read-header.result c.requires.0 (rw c.space.ensures at c.read-header.ensures) c.is_weak.result c.is_weak.ensures c.if-is_weak.true in
    room-small g.a (state c.args.copier.now) c.args.weak.now c.requires.0.midway c.requires.1 c.args.index here

pub returns-then-is_weak-clause-scanned : goal.returns-then-is_weak-clause-scanned
returns-then-is_weak-clause-scanned g c =
    let here = weak-here g.a (state c.args.copier.now) c.args.index c.read-header.result c.requires.0 (rw c.space.ensures at c.read-header.ensures) c.is_weak.result c.is_weak.ensures c.if-is_weak.true in
    weak-done g.a (state c.args.copier.now) c.args.index c.read-header.result c.requires.0 (rw c.space.ensures at c.read-header.ensures) c.is_weak.result c.is_weak.ensures c.if-is_weak.true
    c.note.new.weak.listed (put-there g.a (state c.args.copier.now) c.args.weak.now c.requires.0.midway c.requires.1 c.args.index here c.note.new.weak c.note.ensures.listed c.note.ensures.most)

pub returns-then-is_weak-clause-noting : goal.returns-then-is_weak-clause-noting
returns-then-is_weak-clause-noting g c =
    let here = weak-here g.a (state c.args.copier.now) c.args.index c.read-header.result c.requires.0 (rw c.space.ensures at c.read-header.ensures) c.is_weak.result c.is_weak.ensures c.if-is_weak.true in
    put-in g.a (state c.args.copier.now) c.args.weak.now c.requires.0.midway c.requires.1 c.args.index here c.note.new.weak c.note.ensures.listed c.note.ensures.most

pub scan_fields-requires : goal.scan_fields-requires
scan_fields-requires g c =
    fields-behind g.a (state c.args.copier.now) c.args.index c.read-header.result c.field_count-count.result c.requires.0 (rw c.space.ensures at c.read-header.ensures) c.field_count-count.ensures

pub returns-clause-scanned : goal.returns-clause-scanned
returns-clause-scanned g c =
    strong-done g.a (state c.args.copier.now) c.args.index c.read-header.result c.requires.0 (rw c.space.ensures at c.read-header.ensures) c.is_weak.result c.is_weak.ensures c.if-is_weak.false
    (state c.scan_fields.new.copier) c.args.weak.now.listed
    (headed-scanned g.a (state c.args.copier.now) (state c.scan_fields.new.copier) c.args.index c.read-header.result c.field_count-count.result c.requires.0
    (rw c.space.ensures at c.read-header.ensures) c.field_count-count.ensures c.scan_fields.ensures.new)

pub returns-clause-noting : goal.returns-clause-noting
returns-clause-noting g c =
    notes-later g.a (state c.args.copier.now) (state c.scan_fields.new.copier) c.args.weak.now c.scan_fields.ensures.scans.follows.grows c.requires.1
