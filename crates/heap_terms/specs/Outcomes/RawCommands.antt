-- The commands on raw words: `addr`, `raw`, `add`, `rawget`, `rawput`. They are this project's own. Nothing is left
-- free: `!type` comes where there are no raw words, and `!range` where there is no such word.
use Rattle.std.specs.Prelude.{ℕ, ℤ, slice_set}
use Rattle.heap_terms.specs.declared.answers.Answer.TheVariants.{Word}
use Rattle.heap_terms.specs.declared.cells.Cell.{Cell}
use Rattle.heap_terms.specs.declared.cells.Raw.{Raw}
use Rattle.heap_terms.specs.Cells.{cell_value}
use Rattle.heap_terms.specs.Heap.{NamedHeap}
use Rattle.heap_terms.specs.Outcome.{Outcome, done, answering, needing, indexing}
use Rattle.heap_terms.specs.RawCells.{raw_value, with_raw, word_plus}
use Rattle.heap_terms.specs.Referents.{raws_at, with_raws, changed_at}
use Rattle.heap_terms.specs.Spelling.{word_of}

-- r becomes a word, which is the answer too
abbrev pub taking : NamedHeap → ℕ → Raw → ℕ → Outcome
taking a t r word = answering (Word word) (with_raw a t r word)

-- r becomes the word of the value of c
abbrev pub addressing : NamedHeap → ℕ → Raw → Cell → Outcome
addressing a t r c = taking a t r (word_of a.objects (cell_value a t c))

abbrev pub setting_raw : NamedHeap → ℕ → Raw → ℕ → Outcome
setting_raw a t r word = done (with_raw a t r word)

-- r becomes r + k modulo 2^64
abbrev pub adding_raw : NamedHeap → ℕ → Raw → ℤ → Outcome
adding_raw a t r k = taking a t r (word_plus (raw_value a t r) k)

-- r becomes raw word i of the object in c
abbrev pub getting_raw : NamedHeap → ℕ → Raw → Cell → ℕ → Outcome
getting_raw a t r c i = needing (raws_at a.objects (cell_value a t c)) a (λ ws.
    indexing ws i 0 a (λ word. taking a t r word))

-- raw word i of the object in c becomes r
abbrev pub putting_raw : NamedHeap → ℕ → Cell → ℕ → Raw → Outcome
putting_raw a t c i r = needing (raws_at a.objects (cell_value a t c)) a (λ ws.
    indexing ws i 0 a (λ _.
    done (record a { objects = changed_at a.objects (cell_value a t c) (λ k. with_raws k (slice_set ws i (raw_value a t r))) })))
