-- How many objects begin on some words.
use Rattle.std.specs.Prelude.{◌≡◌, ℕ, ◌+◌, ◌≤◌, List, length, take, drop}
use Rattle.heap_terms.specs.LaidOut.{Piece, AreLaidOut, object_starts}

-- so many objects begin on a part of a space: in whichever pieces it is laid out there
abbrev pub CountsStarts : List ℕ → ℕ → Type 0
CountsStarts part n = (words : List ℕ) (from : ℕ) (pieces : List Piece) → part ≡ take (length part) (drop from words) → from + length part ≤ length words →
    AreLaidOut words from (from + length part) pieces → n ≡ length (object_starts from pieces)
