-- Fillers are passed over, and an object is scanned.
use Rattle.std.proofs.Common.{◌≡◌, arith}
use Rattle.std.specs.Prelude.{slice_index}
use Rattle.copy_space.specs.State.{state}
use Rattle.scavenge.proofs.NotedStarts.{notes-none}
use Rattle.scavenge.proofs.OlderPieces.{fillers-scanned, piece-can, piece-sized, piece-size, piece-inside, object-scanned}
use Rattle.scavenge.proofs.older.scan_piece.Goals as goal

pub returns-then-first-eq-FILLER_WORD-clause-piece : goal.returns-then-first-eq-FILLER_WORD-clause-piece
returns-then-first-eq-FILLER_WORD-clause-piece g c =
    fillers-scanned g.a (state c.args.copier.now) c.args.index c.read-first.result c.requires.0 (rw c.space.ensures at c.read-first.ensures) c.args.weak.now.listed c.if-first-eq-FILLER_WORD.true

pub returns-then-first-eq-FILLER_WORD-clause-noting : goal.returns-then-first-eq-FILLER_WORD-clause-noting
returns-then-first-eq-FILLER_WORD-clause-noting g c = notes-none g.a (state c.args.copier.now) c.args.weak.now c.requires.1

pub scan_object-requires : goal.scan_object-requires
scan_object-requires g c = (
  piece-can g.a (state c.args.copier.now) c.args.index c.read-first.result c.requires.0 (rw c.space.ensures at c.read-first.ensures) c.if-first-eq-FILLER_WORD.false,
  c.requires.1,
)

pub words_from-requires : goal.words_from-requires
words_from-requires g c = record {
  sized = piece-sized g.a (state c.args.copier.now) c.args.index c.read-first.result c.requires.0 (rw c.space.ensures at c.read-first.ensures) c.if-first-eq-FILLER_WORD.false;
}

pub overflow_add-result-2 : goal.overflow_add-result-2
overflow_add-result-2 g c =
    let s = state c.args.copier.now in
    let is : c.read-first.result ≡ slice_index s.words c.args.index = rw c.space.ensures at c.read-first.ensures in
    let size = piece-size g.a s c.args.index c.read-first.result c.requires.0 is c.if-first-eq-FILLER_WORD.false c.words_from.result c.words_from.ensures.headed c.words_from.ensures.cons in
    let inside = piece-inside g.a s c.args.index c.read-first.result c.requires.0 is c.if-first-eq-FILLER_WORD.false in
    let long = c.requires.0.midway.places.long in
    let most = c.requires.0.midway.places.most in
    omega arith

pub returns-clause-piece : goal.returns-clause-piece
returns-clause-piece g c =
    let s = state c.args.copier.now in
    let is : c.read-first.result ≡ slice_index s.words c.args.index = rw c.space.ensures at c.read-first.ensures in
    let size = piece-size g.a s c.args.index c.read-first.result c.requires.0 is c.if-first-eq-FILLER_WORD.false c.words_from.result c.words_from.ensures.headed c.words_from.ensures.cons in
    object-scanned g.a s c.args.index c.read-first.result c.requires.0 is (state c.scan_object.new.copier) c.scan_object.new.weak.listed c.words_from.result c.if-first-eq-FILLER_WORD.false size c.scan_object.ensures.scanned
