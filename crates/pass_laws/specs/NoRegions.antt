-- Heaps while a collection works: no thread has an open page or run, and generations are empty below some number. This
-- is the project's own.
use Rattle.std.specs.Prelude.{◌≡◌, ℕ, ◌≤◌, Some, None}
use Rattle.heap_terms.specs.declared.kinds.PageType.{PageType}
use Rattle.heap_terms.specs.Heap.{NamedHeap, object_at, thread_at, open_page}
use Rattle.heap_terms.specs.Objects.{Object}

-- no thread has an open page or run
abbrev pub HasNoRegions : NamedHeap → Type 0
HasNoRegions a = (t : ℕ) → ((ty : PageType) → open_page (thread_at a t) ty ≡ None) × ((thread_at a t).open_run ≡ None)

-- no object is of a generation below g
abbrev pub IsEmptyBelow : NamedHeap → ℕ → Type 0
IsEmptyBelow a g = (name : ℕ) (o : Object) → object_at a.objects name ≡ Some o → g ≤ o.generation
