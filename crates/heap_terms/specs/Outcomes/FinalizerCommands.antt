-- The commands on finalizers: `finalize`, `cancel`, `runfin`. After SBCL's finalize and cancel-finalization, which
-- cancels all of an object's; the list, its order and the queue are this project's own. Nothing is left free.
use Rattle.std.specs.Prelude.{ℕ, ◌==◌, [], ◌∷◌, ◌++◌, length, filter, count_by, not, if◌then◌else◌}
use Rattle.heap_terms.specs.declared.answers.Answer.TheVariants.{Count, Absent, Ran}
use Rattle.heap_terms.specs.declared.cells.Cell.{Cell}
use Rattle.heap_terms.specs.Cells.{cell_value}
use Rattle.heap_terms.specs.Heap.{NamedHeap}
use Rattle.heap_terms.specs.Outcome.{Outcome, done, answering, needing}
use Rattle.heap_terms.specs.Referents.{name_in}

-- the object in c gets one more finalizer, which stands last
abbrev pub finalizing : NamedHeap → ℕ → Cell → ℕ → Outcome
finalizing a t c id = needing (name_in (cell_value a t c)) a (λ name. done (record a { finalizers = a.finalizers ++ (name, id) ∷ [] }))

-- all entries of the object in c leave the list; none leaves the queue
abbrev pub cancelling : NamedHeap → ℕ → Cell → Outcome
cancelling a t c = needing (name_in (cell_value a t c)) a (λ name.
    answering (Count (count_by (λ entry. entry.0 == name) a.finalizers))
    (record a { finalizers = filter (λ entry. not (entry.0 == name)) a.finalizers }))

-- the queue is run, and empty after it
abbrev pub running_finalizers : NamedHeap → Outcome
running_finalizers a = if length a.queue == 0 then answering Absent a else answering (Ran a.queue) (record a { queue = [] })
