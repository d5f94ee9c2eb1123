-- A word tells the piece that it begins, so words are laid out in one way only, the one that a walk follows.
use Rattle.std.proofs.Common.{◌≡◌, ◌≢◌, ℕ, zero, suc, ◌+◌, ◌-◌, ◌*◌, ◌/◌, ◌%◌, ◌<◌, ◌≤◌, ◌==◌, List, [], ◌∷◌, map, true, false, refl, sym, ◌∙◌, ap, arith}
use Rattle.std.proofs.lemmas.Bool.{lt-ltb, le-ltb, ne_eqb, eq-eqb}
use Rattle.std.specs.Prelude.{slice_index, nat_lt}
use Rattle.heap_terms.specs.declared.kinds.Kind.{Kind}
use Rattle.heap_terms.specs.declared.kinds.Kind.TheVariants as kinds
use Rattle.heap_terms.specs.Layout.{filler_word, size_of}
use Rattle.heap_terms.specs.LaidOut.{Piece, Fillers, Whole, words_of_piece, BeginsWith, IsPieceAt, AreLaidOut, object_starts}
use Rattle.object_walk.specs.Walks.{kind_of_byte, piece_of, pieces_within, found_left, found_at}

pub size_least : (kind : Kind) (n : ℕ) → 2 ≤ size_of kind n
size_least kinds.Cons n = omega arith
size_least kinds.Vector n = omega arith
size_least kinds.Instance n = omega arith
size_least kinds.Closure n = omega arith
size_least kinds.Words n = omega arith
size_least kinds.Weak n = omega arith
size_least kinds.Table n = omega arith

pub piece_least : (p : Piece) → 2 ≤ words_of_piece p
piece_least Fillers = omega arith
piece_least (Whole kind n) = size_least kind n

-- the piece of each kind of word
filler_piece : (word : ℕ) → word ≡ filler_word → piece_of word ≡ Fillers
unfolding piece_of
filler_piece word e = rw e refl

cons_piece : (word n : ℕ) → n ≡ 2 → word % 4 ≢ 1 → piece_of word ≡ Whole kinds.Cons n
unfolding piece_of
cons_piece word n two value =
    let not_filler : (word == filler_word) ≡ false = ne_eqb word filler_word (λ e. value (rw e refl)) in
    let not_header : (word % 4 == 1) ≡ false = ne_eqb (word % 4) 1 value in
    rw (not_filler, not_header, two) refl

header_piece : (word n byte : ℕ) → word ≡ n * 256 + byte → byte < 256 → byte % 4 ≡ 1 → byte ≢ 0x41 → piece_of word ≡ Whole (kind_of_byte byte) n
unfolding piece_of
header_piece word n byte is small one other =
    let low : word % 256 ≡ byte = omega arith in
    let high : word / 256 ≡ n = omega arith in
    let not_filler : (word == filler_word) ≡ false = ne_eqb word filler_word (λ e. other (omega arith)) in
    let header : (word % 4 == 1) ≡ true = eq-eqb (word % 4) 1 (omega arith) in
    rw (not_filler, header, low, high) refl

begun_piece : (kind : Kind) (n word : ℕ) → BeginsWith kind n word → piece_of word ≡ Whole kind n
begun_piece kinds.Cons n word h = cons_piece word n h.0 h.1
begun_piece kinds.Vector n word h = header_piece word n 0x21 h.0 (omega arith) refl (omega arith)
begun_piece kinds.Instance n word h = header_piece word n 0x29 h.0 (omega arith) refl (omega arith)
begun_piece kinds.Closure n word h = header_piece word n 0x35 h.0 (omega arith) refl (omega arith)
begun_piece kinds.Words n word h = header_piece word n 0x25 h.0 (omega arith) refl (omega arith)
begun_piece kinds.Weak n word h = header_piece word n 0x2D h.0 (omega arith) refl (omega arith)
begun_piece kinds.Table n word h = header_piece word n 0x31 h.0 (omega arith) refl (omega arith)

pub piece_told : (words : List ℕ) (index : ℕ) (p : Piece) → IsPieceAt words index p → piece_of (slice_index words index) ≡ p
piece_told words index Fillers h = filler_piece (slice_index words index) h.0
piece_told words index (Whole kind n) h = begun_piece kind n (slice_index words index) h

-- the words that are laid out in pieces give just these
pub pieces_told : (words : List ℕ) (most from end : ℕ) (pieces : List Piece) → AreLaidOut words from end pieces → end ≤ from + most →
    pieces_within words most from end ≡ pieces
unfolding pieces_within
pieces_told words zero from end [] h fuel = refl
pieces_told words zero from end (p ∷ pieces) h fuel = absurd (omega (arith, h.0))
pieces_told words (suc most) from end [] h fuel =
    let past : nat_lt from end ≡ false = le-ltb from end h in
    rw past refl
pieces_told words (suc most) from end (p ∷ pieces) h fuel =
    let before : nat_lt from end ≡ true = lt-ltb from end h.0 in
    let told : piece_of (slice_index words from) ≡ p = piece_told words from p h.1 in
    rw (before, told) (ap (λ (ps : List Piece). p ∷ ps) (pieces_told words most (from + words_of_piece p) end pieces h.2 (omega (arith, piece_least p))))

pub pieces_once : (words : List ℕ) (from end : ℕ) (pieces others : List Piece) → AreLaidOut words from end pieces → AreLaidOut words from end others →
    pieces ≡ others
pieces_once words from end pieces others h k =
    sym (pieces_told words (end - from) from end pieces h (omega arith)) ∙ pieces_told words (end - from) from end others k (omega arith)

pub left_told : (words : List ℕ) (from end : ℕ) (pieces : List Piece) → AreLaidOut words from end pieces →
    found_left words from end ≡ map found_at (object_starts from pieces)
unfolding found_left
left_told words from end pieces h = ap (λ (ps : List Piece). map found_at (object_starts from ps)) (pieces_told words (end - from) from end pieces h (omega arith))
