-- The command on weak pointers, `weakval`. After SBCL's weak-pointer-value: the value while the pointer is valid, and
-- NIL once it is broken. Nothing is left free.
use Rattle.std.specs.Prelude.{ℕ}
use Rattle.heap_terms.specs.declared.answers.Answer.TheVariants.{Live, Broken}
use Rattle.heap_terms.specs.declared.cells.Cell.{Cell}
use Rattle.heap_terms.specs.declared.cells.Value.{Value}
use Rattle.heap_terms.specs.declared.cells.Value.TheVariants as values
use Rattle.heap_terms.specs.Cells.{cell_value, with_cell}
use Rattle.heap_terms.specs.Heap.{NamedHeap}
use Rattle.heap_terms.specs.Outcome.{Outcome, answering, needing}
use Rattle.heap_terms.specs.Referents.{pointee_at}

-- a broken weak pointer points to Unbound
abbrev pub weak_outcome : NamedHeap → ℕ → Cell → Value → Outcome
weak_outcome a t d (values.Fix n) = answering (Live (values.Fix n)) (with_cell a t d (values.Fix n))
weak_outcome a t d values.Nil = answering (Live values.Nil) (with_cell a t d values.Nil)
weak_outcome a t d values.Unbound = answering Broken (with_cell a t d values.Nil)
weak_outcome a t d (values.Ref name) = answering (Live (values.Ref name)) (with_cell a t d (values.Ref name))

abbrev pub weak_getting : NamedHeap → ℕ → Cell → Cell → Outcome
weak_getting a t d c = needing (pointee_at a.objects (cell_value a t c)) a (weak_outcome a t d)
