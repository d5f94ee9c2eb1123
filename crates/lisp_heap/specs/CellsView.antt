-- The words in the cells of all threads.
use Rattle.std.specs.Prelude.{◌≡◌, ℕ, ◌+◌, ◌*◌, ◌≤◌, List, length, take, drop, ◌++◌, replicate, slice_index, slice_set}
use Rattle.heap_terms.specs.declared.cells.Cell.{Cell}
use Rattle.heap_terms.specs.declared.cells.Cell.TheVariants.{Stack, Exact, Shared}
use Rattle.heap_terms.specs.declared.cells.Raw.{Raw}

-- how many cells s a thread has, likewise cells b, and how many cells g all threads share
abbrev pub cells_each : ℕ
cells_each = 16

-- how many raw cells a thread has
abbrev pub raws_each : ℕ
raws_each = 8

-- the cells s of all threads, one thread's after the other's, likewise the cells b and the raw cells, and the cells g
pub record CellsView : Type 0 where
  pub stack : List ℕ
  pub exact : List ℕ
  pub raws : List ℕ
  pub shared : List ℕ

-- the cells of so many threads, each the fixnum 0, and each raw cell the word 0
abbrev pub zero_cells : ℕ → CellsView
zero_cells threads = record {
  stack = replicate (cells_each * threads) 0;
  exact = replicate (cells_each * threads) 0;
  raws = replicate (raws_each * threads) 0;
  shared = replicate cells_each 0;
}

-- where cell i of thread t stands among those of all threads
abbrev pub spot : ℕ → ℕ → ℕ
spot t i = cells_each * t + i

-- where raw cell i of thread t stands among those of all threads
abbrev pub raw_spot : ℕ → ℕ → ℕ
raw_spot t i = raws_each * t + i

-- the word in a cell of thread t
abbrev pub cell_word : CellsView → ℕ → Cell → ℕ
cell_word v t (Stack i) = slice_index v.stack (spot t i)
cell_word v t (Exact i) = slice_index v.exact (spot t i)
cell_word v t (Shared i) = slice_index v.shared i

-- the cells after a word was put into one of thread t
abbrev pub with_cell_word : CellsView → ℕ → Cell → ℕ → CellsView
with_cell_word v t (Stack i) word = record v { stack = slice_set v.stack (spot t i) word }
with_cell_word v t (Exact i) word = record v { exact = slice_set v.exact (spot t i) word }
with_cell_word v t (Shared i) word = record v { shared = slice_set v.shared i word }

-- the word in a raw cell of thread t
abbrev pub raw_word : CellsView → ℕ → Raw → ℕ
raw_word v t r = slice_index v.raws (raw_spot t r.0)

-- the cells after a word was put into a raw cell of thread t
abbrev pub with_raw_word : CellsView → ℕ → Raw → ℕ → CellsView
with_raw_word v t r word = record v { raws = slice_set v.raws (raw_spot t r.0) word }

-- zeros in the place of thread t's cells, of which each thread has so many
abbrev pub cleared : ℕ → List ℕ → ℕ → List ℕ
cleared each words t = take (each * t) words ++ replicate each 0 ++ drop (each * t + each) words

-- the cells after words were put into all cells b and, behind them, the cells g
abbrev pub with_exact_words : CellsView → List ℕ → CellsView
with_exact_words v words = record v { exact = take (length v.exact) words; shared = drop (length v.exact) words }

-- thread t's cells are there, and the cells g
pub record HasCells (v : CellsView) (t : ℕ) : Type 0 where
  pub stack : cells_each * t + cells_each ≤ length v.stack
  pub exact : cells_each * t + cells_each ≤ length v.exact
  pub raws : raws_each * t + raws_each ≤ length v.raws
  pub shared : length v.shared ≡ cells_each

-- the cells after thread t's own were cleared
abbrev pub with_cleared : CellsView → ℕ → CellsView
with_cleared v t = record v {
  stack = cleared cells_each v.stack t;
  exact = cleared cells_each v.exact t;
  raws = cleared raws_each v.raws t;
}
