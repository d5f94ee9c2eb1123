-- Runs as a relation, with the heaps in between.
use Rattle.std.specs.Prelude.{◌≡◌, List, [], ◌∷◌}
use Rattle.heap_terms.specs.declared.events.Event.{Event}
use Rattle.heap_terms.specs.declared.programs.Program.{Program}
use Rattle.heap_terms.specs.Heap.{NamedHeap}
use Rattle.heap_terms.specs.Histories.{IsNext, after}

-- an event that may come next leads from a heap to another
abbrev pub IsStep : Program → NamedHeap → Event → NamedHeap → Type 0
IsStep p a e b = IsNext p a e × (b ≡ after p a e)

-- a list of events leads from a heap to another, through a heap after each event
abbrev pub IsRunOf : Program → NamedHeap → List Event → NamedHeap → Type 0
IsRunOf p a [] b = b ≡ a
IsRunOf p a (e ∷ es) b = (c : NamedHeap) × IsStep p a e c × IsRunOf p c es b
