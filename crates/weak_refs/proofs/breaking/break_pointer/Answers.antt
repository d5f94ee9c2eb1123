-- The value's word is looked up, and the pointer gets the word that it has after the pass.
use Rattle.std.proofs.Common.{[], ◌∷◌, ◌++◌, sym, ◌∙◌, ap, arith}
use Rattle.copy_space.specs.State.{state}
use Rattle.weak_refs.proofs.Noting.{rest-on}
use Rattle.weak_refs.proofs.Pointers.{pointer-inside, pointer-word, pointer-look, left-live, left-dead, dead-none}
use Rattle.weak_refs.proofs.breaking.break_pointer.Goals as goal

pub read-word-requires : goal.read-word-requires
read-word-requires g c =
    let inside = pointer-inside g.a (state c.args.copier.now) c.args.start c.requires.places c.requires.pointer in
    rw c.space.ensures (omega arith)

pub word_now-requires : goal.word_now-requires
word_now-requires g c =
    pointer-look g.a (state c.args.copier.now) c.args.start c.requires.places c.requires.pointer c.read-word.result (rw c.space.ensures at c.read-word.ensures)

pub place_before-place-requires : goal.place_before-place-requires
place_before-place-requires g c =
    let inside = pointer-inside g.a (state c.args.copier.now) c.args.start c.requires.places c.requires.pointer in
    record { places = c.requires.places; inside = omega arith }

pub write-requires : goal.write-requires
write-requires g c =
    let inside = pointer-inside g.a (state c.args.copier.now) c.args.start c.requires.places c.requires.pointer in
    omega arith

pub returns-in-Some-clause-left : goal.returns-in-Some-clause-left
returns-in-Some-clause-left g c = λ q.
    (let s = state c.args.copier.now in
    let word = pointer-word g.a s c.args.start c.requires.places q c.read-word.result (rw c.space.ensures at c.read-word.ensures) in
    left-live g.a s c.args.start c.requires.places q (state c.write.new.self) c.in-Some.now c.args.copier.now.notes.now c.write.new.self.notes.now
    (sym c.in-Some.is ∙ c.word_now.ensures q.v word) c.write.ensures.words c.write.ensures.notes.breaks)

pub returns-in-Some-clause-notes : goal.returns-in-Some-clause-notes
returns-in-Some-clause-notes g c = (let n = c.write.ensures.notes in record { rest = n.rest; culls = n.culls; queued = n.queued })

pub note_break-requires : goal.note_break-requires
note_break-requires g c =
    let s = state c.args.copier.now in
    let q = c.requires.pointer in
    let word = pointer-word g.a s c.args.start c.requires.places q c.read-word.result (rw c.space.ensures at c.read-word.ensures) in
    let dead = dead-none g.a s q.v (sym c.in-None.is ∙ c.word_now.ensures q.v word) in
    let room = c.requires.room dead in
    rw c.write-in-None.ensures.notes.breaks (omega arith)

pub returns-in-None-clause-left : goal.returns-in-None-clause-left
returns-in-None-clause-left g c = λ q.
    (let s = state c.args.copier.now in
    let word = pointer-word g.a s c.args.start c.requires.places q c.read-word.result (rw c.space.ensures at c.read-word.ensures) in
    left-dead g.a s c.args.start c.requires.places q (state c.note_break.new.self) c.place_before-place.result c.args.copier.now.notes.now c.note_break.new.self.notes.now
    (sym c.in-None.is ∙ c.word_now.ensures q.v word) (c.note_break.ensures.same ∙ c.write-in-None.ensures.words) (c.place_before-place.ensures q.name q.o q.there q.here)
    (c.note_break.ensures.noted ∙ ap (λ b. b.items ++ c.place_before-place.result ∷ []) c.write-in-None.ensures.notes.breaks))

pub returns-in-None-clause-notes : goal.returns-in-None-clause-notes
returns-in-None-clause-notes g c =
    let n = c.write-in-None.ensures.notes in
    let m = c.note_break.ensures.others in
    record { rest = rest-on c.args.copier.now.notes.now c.write-in-None.new.self.notes.now c.note_break.new.self.notes.now n.rest m.rest; culls = m.culls ∙ n.culls; queued = m.queued ∙ n.queued }
