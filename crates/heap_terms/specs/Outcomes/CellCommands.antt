-- The commands on cells alone: `fix`, `nil`, `move`, `eq`, `show`. They are this project's own. Nothing is left free.
use Rattle.std.specs.Prelude.{ℕ, ℤ, if◌then◌else◌}
use Rattle.heap_terms.specs.declared.answers.Answer.TheVariants.{Val, Yes, No}
use Rattle.heap_terms.specs.declared.cells.Cell.{Cell}
use Rattle.heap_terms.specs.declared.cells.Value.TheVariants as values
use Rattle.heap_terms.specs.Cells.{cell_value, with_cell}
use Rattle.heap_terms.specs.Heap.{NamedHeap}
use Rattle.heap_terms.specs.Outcome.{Outcome, done, answering}
use Rattle.heap_terms.specs.Pairs.{same_value}

abbrev pub fixing : NamedHeap → ℕ → Cell → ℤ → Outcome
fixing a t d n = done (with_cell a t d (values.Fix n))

abbrev pub making_nil : NamedHeap → ℕ → Cell → Outcome
making_nil a t d = done (with_cell a t d values.Nil)

abbrev pub moving : NamedHeap → ℕ → Cell → Cell → Outcome
moving a t d c = done (with_cell a t d (cell_value a t c))

abbrev pub comparing : NamedHeap → ℕ → Cell → Cell → Outcome
comparing a t x y = answering (if same_value (cell_value a t x) (cell_value a t y) then Yes else No) a

abbrev pub showing : NamedHeap → ℕ → Cell → Outcome
showing a t c = answering (Val (cell_value a t c)) a
