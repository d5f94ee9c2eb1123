-- For the tests: words that were tested to be laid out.
use Rattle.std.proofs.Common.{◌≡◌, ◌≢◌, ℕ, ◌+◌, ◌%◌, ◌<◌, ◌≤◌, List, ◌∷◌, refl, arith}
use Rattle.std.specs.Prelude.{slice_index}
use Rattle.heap_terms.specs.declared.kinds.Kind.{Kind}
use Rattle.heap_terms.specs.declared.kinds.Kind.TheVariants as kinds
use Rattle.heap_terms.specs.declared.limits.TheConstants.{MOST_ELEMENTS}
use Rattle.heap_terms.specs.LaidOut.{Piece, Whole, words_of_piece, BeginsWith, IsPieceAt, AreLaidOut}
use Rattle.heap_terms.specs.Layout.{size_of}
use Rattle.lisp_words.specs.Tagged.{IsHeader}
use Rattle.object_walk.proofs.Pieces.{piece_least}
use Rattle.object_walk.proofs.Walked.{size_most}

header_begins : (word : ℕ) (kind : Kind) (n : ℕ) → IsHeader word kind n → n ≤ MOST_ELEMENTS → BeginsWith kind n word
header_begins word kinds.Cons n h few = absurd (h.headed refl)
header_begins word kinds.Vector n h few = (h.word_is, few)
header_begins word kinds.Instance n h few = (h.word_is, few)
header_begins word kinds.Closure n h few = (h.word_is, few)
header_begins word kinds.Words n h few = (h.word_is, few)
header_begins word kinds.Weak n h few = (h.word_is, few)
header_begins word kinds.Table n h few = (h.word_is, few)

pub header_piece_at : (words : List ℕ) (index word size : ℕ) (kind : Kind) (n : ℕ) → word ≡ slice_index words index → IsHeader word kind n → n ≤ MOST_ELEMENTS →
    size ≡ size_of kind n → (piece : Piece) × IsPieceAt words index piece × (size ≡ words_of_piece piece) × (size ≤ 65536)
header_piece_at words index word size kind n read h few is =
    let begins : BeginsWith kind n (slice_index words index) = rw (← read) (header_begins word kind n h few) in
    (Whole kind n, begins, is, omega (arith, size_most kind n few))

pub cons_piece_at : (words : List ℕ) (index word : ℕ) → word ≡ slice_index words index → word % 4 ≢ 1 →
    (piece : Piece) × IsPieceAt words index piece × (2 ≡ words_of_piece piece) × (2 ≤ 65536)
cons_piece_at words index word read value = (Whole kinds.Cons 2, (refl, rw (← read) value), refl, omega arith)

-- a piece more
pub piece_more : (words : List ℕ) (index size end : ℕ) (pieces : List Piece) → index < end →
    (piece : Piece) × IsPieceAt words index piece × (size ≡ words_of_piece piece) × (size ≤ 65536) → AreLaidOut words (index + size) end pieces →
    (pieces : List Piece) × AreLaidOut words index end pieces
piece_more words index size end pieces below (piece, here, is, small) rest = (piece ∷ pieces, (below, here, rw is at rest))

pub piece_least_of : (words : List ℕ) (index size : ℕ) → (piece : Piece) × IsPieceAt words index piece × (size ≡ words_of_piece piece) × (size ≤ 65536) → 2 ≤ size
piece_least_of words index size (piece, here, is, small) = omega (arith, piece_least piece, is)
