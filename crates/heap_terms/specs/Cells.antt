-- Reading and writing the Lisp cells of a thread.
use Rattle.std.specs.Prelude.{ℕ, slice_index_or, slice_set}
use Rattle.heap_terms.specs.declared.cells.Cell.{Cell}
use Rattle.heap_terms.specs.declared.cells.Cell.TheVariants.{Stack, Exact, Shared}
use Rattle.heap_terms.specs.declared.cells.Value.{Value}
use Rattle.heap_terms.specs.Heap.{NamedHeap, thread_at, with_thread, zero_value}

-- the value in a cell of thread t
abbrev pub cell_value : NamedHeap → ℕ → Cell → Value
cell_value a t (Stack i) = slice_index_or (thread_at a t).stack i zero_value
cell_value a t (Exact i) = slice_index_or (thread_at a t).exact i zero_value
cell_value a t (Shared i) = slice_index_or a.shared i zero_value

-- the heap after a value was put into a cell of thread t
abbrev pub with_cell : NamedHeap → ℕ → Cell → Value → NamedHeap
with_cell a t (Stack i) v = let th = thread_at a t in with_thread a t (record th { stack = slice_set th.stack i v })
with_cell a t (Exact i) v = let th = thread_at a t in with_thread a t (record th { exact = slice_set th.exact i v })
with_cell a t (Shared i) v = record a { shared = slice_set a.shared i v }
