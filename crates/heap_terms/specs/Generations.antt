-- Generations: which objects are of one, and how many words they take. That a collector has generations is SBCL's, and
-- that the last is never collected is as in SBCL; that they are numbered 0 to 6 is this project's own. Nothing is left
-- free.
use Rattle.std.specs.Prelude.{ℕ, ◌==◌, List, length, Option, Some, None, Bool, false, sum_by, if◌then◌else◌}
use Rattle.std.specs.List.{range_with_len}
use Rattle.heap_terms.specs.Heap.{NamedHeap, object_at}
use Rattle.heap_terms.specs.Objects.{Object, words_of_object}

-- whether an object is there and of generation g
abbrev pub has_generation : ℕ → Option Object → Bool
has_generation g None = false
has_generation g (Some o) = o.generation == g

-- whether a name is of generation g
abbrev pub is_of : NamedHeap → ℕ → ℕ → Bool
is_of a g name = has_generation g (object_at a.objects name)

-- all names that were ever given, in their order
abbrev pub names : NamedHeap → List ℕ
names a = range_with_len 0 (length a.objects)

-- how many words an object takes; one that is gone takes none
abbrev pub words_taken : Option Object → ℕ
words_taken None = 0
words_taken (Some o) = words_of_object o

-- the sum of the sizes of the objects of generation g
abbrev pub allocated : NamedHeap → ℕ → ℕ
allocated a g = sum_by (λ o. if has_generation g o then words_taken o else 0) a.objects
