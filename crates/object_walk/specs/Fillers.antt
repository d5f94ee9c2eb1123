-- Words that belong to no object.
use Rattle.std.specs.Prelude.{ℕ, ◌+◌, List, ◌++◌, take, drop, replicate}
use Rattle.heap_terms.specs.Layout.{filler_word}

-- the words after the n from an index on became fillers
abbrev pub with_fillers : List ℕ → ℕ → ℕ → List ℕ
with_fillers words from n = take from words ++ replicate n filler_word ++ drop (from + n) words
