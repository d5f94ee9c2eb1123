-- The commands on tables: `tput`, `tget`, `trem`, `tcount`. Tables go by identity, as SBCL's EQ tables; that a table
-- does not grow is this project's own. Nothing is left free: `!full` comes where a new key finds no room.
use Rattle.std.specs.Prelude.{ℕ, ◌||◌, List, length, Option, Some, None, if◌then◌else◌, nat_lt}
use Rattle.heap_terms.specs.declared.answers.Answer.TheVariants.{Val, Yes, No, Absent, Count}
use Rattle.heap_terms.specs.declared.answers.Refusal.TheVariants.{TableFull}
use Rattle.heap_terms.specs.declared.cells.Cell.{Cell}
use Rattle.heap_terms.specs.declared.cells.Value.{Value}
use Rattle.heap_terms.specs.declared.cells.Value.TheVariants as values
use Rattle.heap_terms.specs.Cells.{cell_value, with_cell}
use Rattle.heap_terms.specs.Heap.{NamedHeap}
use Rattle.heap_terms.specs.Outcome.{Outcome, done, answering, refused, needing}
use Rattle.heap_terms.specs.Pairs.{has_key, value_at, with_pair, without_key}
use Rattle.heap_terms.specs.Referents.{table_at, with_pairs, changed_at}

-- the heap in which the table that a value refers to has other pairs
abbrev pub with_pairs_at : NamedHeap → Value → List (Value × Value) → NamedHeap
with_pairs_at a v pairs = record a { objects = changed_at a.objects v (λ k. with_pairs k pairs) }

-- the pair of a key is replaced in its place, or added last
abbrev pub table_putting : NamedHeap → ℕ → Cell → Cell → Cell → Outcome
table_putting a t c k v = needing (table_at a.objects (cell_value a t c)) a (λ table.
    if has_key table.pairs (cell_value a t k) || nat_lt (length table.pairs) table.capacity
    then done (with_pairs_at a (cell_value a t c) (with_pair table.pairs (cell_value a t k) (cell_value a t v)))
    else refused TableFull a)

-- d becomes the value of a key, or NIL
abbrev pub found_outcome : NamedHeap → ℕ → Cell → Option Value → Outcome
found_outcome a t d None = answering Absent (with_cell a t d values.Nil)
found_outcome a t d (Some v) = answering (Val v) (with_cell a t d v)

abbrev pub table_getting : NamedHeap → ℕ → Cell → Cell → Cell → Outcome
table_getting a t d c k = needing (table_at a.objects (cell_value a t c)) a (λ table.
    found_outcome a t d (value_at table.pairs (cell_value a t k)))

-- the pair of a key is taken out
abbrev pub table_removing : NamedHeap → ℕ → Cell → Cell → Outcome
table_removing a t c k = needing (table_at a.objects (cell_value a t c)) a (λ table.
    if has_key table.pairs (cell_value a t k)
    then answering Yes (with_pairs_at a (cell_value a t c) (without_key table.pairs (cell_value a t k)))
    else answering No a)

abbrev pub table_counting : NamedHeap → ℕ → Cell → Outcome
table_counting a t c = needing (table_at a.objects (cell_value a t c)) a (λ table. answering (Count (length table.pairs)) a)
