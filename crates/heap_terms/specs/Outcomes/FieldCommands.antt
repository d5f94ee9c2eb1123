-- The commands on the fields of conses, vectors, instances and closures: `get` and `put`. They are this project's
-- own. Nothing is left free: `!type` comes where there are no fields, and `!range` where there is no such field.
use Rattle.std.specs.Prelude.{ℕ}
use Rattle.heap_terms.specs.declared.answers.Answer.TheVariants.{Val}
use Rattle.heap_terms.specs.declared.cells.Cell.{Cell}
use Rattle.heap_terms.specs.Cells.{cell_value, with_cell}
use Rattle.heap_terms.specs.Heap.{NamedHeap, zero_value}
use Rattle.heap_terms.specs.Outcome.{Outcome, done, answering, needing, indexing}
use Rattle.heap_terms.specs.Referents.{fields_at, with_field_at}

-- d becomes field i of the object in c
abbrev pub getting : NamedHeap → ℕ → Cell → Cell → ℕ → Outcome
getting a t d c i = needing (fields_at a.objects (cell_value a t c)) a (λ vs.
    indexing vs i zero_value a (λ v. answering (Val v) (with_cell a t d v)))

-- field i of the object in c becomes the value of b
abbrev pub putting : NamedHeap → ℕ → Cell → ℕ → Cell → Outcome
putting a t c i b = needing (fields_at a.objects (cell_value a t c)) a (λ vs.
    indexing vs i zero_value a (λ _.
    done (record a { objects = with_field_at a.objects (cell_value a t c) i (cell_value a t b) })))
