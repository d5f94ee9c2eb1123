-- The passes of a collection that were made so far, when it goes on.
use Rattle.std.specs.Prelude.{◌≡◌, ℕ, ◌+◌, List, [], ◌∷◌, true}
use Rattle.heap_terms.specs.declared.events.PassRecord.{PassRecord}
use Rattle.heap_terms.specs.Collections.{IsPassOf, after_pass_of, goes_on_after}
use Rattle.heap_terms.specs.Heap.{NamedHeap}

-- these are the passes of a collection up to `last`, from generation g on, and it goes on after each of them
abbrev pub ArePassesSoFar : NamedHeap → ℕ → ℕ → List PassRecord → Type 0
ArePassesSoFar a last g [] = Unit {0}
ArePassesSoFar a last g (r ∷ rest) =
    IsPassOf a last g r × (goes_on_after a last g r ≡ true) × ArePassesSoFar (after_pass_of a last g r) last (g + 1) rest
