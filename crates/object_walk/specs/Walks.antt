-- What a walk over a page finds, and what it has still to give. All of it says in the walk's own terms what
-- `heap_terms` says of pieces: which piece begins at an index is read off the word there.
use Rattle.std.specs.Prelude.{◌≡◌, ℕ, zero, suc, ◌+◌, ◌-◌, ◌/◌, ◌%◌, ◌≤◌, ◌==◌, List, [], ◌∷◌, map, length, nat_lt, if◌then◌else◌, slice_index}
use Rattle.heap_terms.specs.declared.kinds.Kind.{Kind}
use Rattle.heap_terms.specs.declared.kinds.Kind.TheVariants as kinds
use Rattle.heap_terms.specs.declared.limits.TheConstants.{MOST_WORDS}
use Rattle.heap_terms.specs.declared.pages.Entry.{Entry}
use Rattle.heap_terms.specs.Layout.{filler_word, size_of}
use Rattle.heap_terms.specs.LaidOut.{Piece, Fillers, Whole, words_of_piece, BeginsWith, AreLaidOut, ObjectStart, object_starts, StartsAt}
use Rattle.object_walk.specs.declared.found.Found.{Found}

-- an object that begins somewhere, with its size
abbrev pub found_at : ObjectStart → Found
found_at s = record { index = s.index; kind = s.kind; n = s.n; size = size_of s.kind s.n }

-- an object can begin with a word
pub record IsFirstWord (word : ℕ) : Type 0 where
  pub kind : Kind
  pub n : ℕ
  pub begins : BeginsWith kind n word

-- the object that was found at an index is the one that starts there
pub record IsFoundAt (words : List ℕ) (pages : List Entry) (index : ℕ) (f : Found) : Type 0 where
  pub start : ObjectStart
  pub is : f ≡ found_at start
  pub here : start.index ≡ index
  pub starts : StartsAt words pages start

-- the kind that a header's low byte names
abbrev pub kind_of_byte : ℕ → Kind
kind_of_byte byte =
    if byte == 0x21 then kinds.Vector
    else if byte == 0x25 then kinds.Words
    else if byte == 0x29 then kinds.Instance
    else if byte == 0x2D then kinds.Weak
    else if byte == 0x31 then kinds.Table
    else kinds.Closure

-- the piece that a word begins
unfoldable pub piece_of : ℕ → Piece
piece_of word =
    if word == filler_word then Fillers
    else if word % 4 == 1 then Whole (kind_of_byte (word % 256)) (word / 256)
    else Whole kinds.Cons 2

-- the pieces from an index on that begin below an end, at most so many
unfoldable pub pieces_within : List ℕ → ℕ → ℕ → ℕ → List Piece
pieces_within words zero from end = []
pieces_within words (suc most) from end =
    if nat_lt from end
    then piece_of (slice_index words from) ∷ pieces_within words most (from + words_of_piece (piece_of (slice_index words from))) end
    else []

-- what a walk has still to give: the objects among them
unfoldable pub found_left : List ℕ → ℕ → ℕ → List Found
found_left words from end = map found_at (object_starts from (pieces_within words (end - from) from end))

-- a walk stands at the edge of a piece, and the words from there on are laid out up to its end, which lies in the space
pub record IsWalk (words : List ℕ) (from end : ℕ) : Type 0 where
  pub pieces : List Piece
  pub laid : AreLaidOut words from end pieces
  pub inside : end ≤ length words
  pub most : end ≤ MOST_WORDS
