-- Reading and writing the raw cells of a thread, and sums of raw words. They are this project's own. Nothing is left
-- free.
use Rattle.std.specs.Prelude.{ℕ, ℤ, pos, negsuc, ◌+◌, ◌-◌, ◌%◌, ◌^◌, slice_index_or, slice_set}
use Rattle.heap_terms.specs.declared.cells.Raw.{Raw}
use Rattle.heap_terms.specs.Heap.{NamedHeap, thread_at, with_thread}

-- the word in a raw cell of thread t
abbrev pub raw_value : NamedHeap → ℕ → Raw → ℕ
raw_value a t r = slice_index_or (thread_at a t).raws r.0 0

-- the heap after a word was put into a raw cell of thread t
abbrev pub with_raw : NamedHeap → ℕ → Raw → ℕ → NamedHeap
with_raw a t r word = let th = thread_at a t in with_thread a t (record th { raws = slice_set th.raws r.0 word })

-- a word and a signed number of 64 bits, added modulo 2^64
abbrev pub word_plus : ℕ → ℤ → ℕ
word_plus word (pos k) = (word + k) % 2 ^ 64
word_plus word (negsuc k) = (word + (2 ^ 64 - (k + 1))) % 2 ^ 64
