-- The policy: when a pass raises what it keeps by one generation, and when a collection goes on. After SBCL's number of
-- collections before promotion, bytes consed between collections and minimum average age; the loop and all numbers
-- are this project's own. Nothing is left free.
use Rattle.std.specs.Prelude.{ℕ, List, ◌+◌, ◌*◌, ◌&&◌, ◌||◌, Bool, if◌then◌else◌, nat_le, nat_lt, slice_index_or, slice_set}
use Rattle.heap_terms.specs.declared.limits.TheConstants.{OLDEST_COLLECTED}
use Rattle.heap_terms.specs.Generations.{allocated}
use Rattle.heap_terms.specs.Heap.{NamedHeap}

-- a generation is raised once so many passes over it did not raise it, or at once where an older one is asked for
abbrev pub before : ℕ
before = 1

-- an older generation than those that are asked for is collected only where it has more words than this
abbrev pub between : ℕ
between = 1024

-- `cum` of a generation: at each raise into it since it was last collected, the words that were in it before, added up;
-- divided by its words it is its average age. `num`: the passes over it since it was last raised.
abbrev pub cum_of : NamedHeap → ℕ → ℕ
cum_of a g = slice_index_or a.cum g 0

abbrev pub num_of : NamedHeap → ℕ → ℕ
num_of a g = slice_index_or a.num g 0

-- whether generation g is raised in a collection up to generation `last`
unfoldable pub is_raised : NamedHeap → ℕ → ℕ → Bool
is_raised a last g = nat_lt g OLDEST_COLLECTED && (nat_lt g last || nat_le before (num_of a g))

-- whether the average age of a generation is above three quarters
abbrev pub has_age : NamedHeap → ℕ → Bool
has_age a g = nat_lt (3 * allocated a g) (4 * cum_of a g)

-- whether the collection goes on with generation g + 1, in the heap after the pass over g
unfoldable pub is_continued : NamedHeap → ℕ → ℕ → Bool → Bool
is_continued a last g raised =
    nat_lt g OLDEST_COLLECTED && (nat_le (g + 1) last || (raised && (nat_lt between (allocated a (g + 1)) && has_age a (g + 1))))

-- the target of a pass over generation g
abbrev pub target_of : ℕ → Bool → ℕ
target_of g raised = if raised then g + 1 else g

-- `cum` after the pass over generation g: the words of the next generation, as they are before the pass, are added to
-- its number where g is raised into it, and g itself has been collected
abbrev pub cum_after : NamedHeap → ℕ → Bool → List ℕ
cum_after a g raised =
    slice_set (if raised then slice_set a.cum (g + 1) (cum_of a (g + 1) + allocated a (g + 1)) else a.cum) g 0

-- `num` after it: one pass more over g that did not raise it, and 0 where it was raised
abbrev pub num_after : NamedHeap → ℕ → Bool → List ℕ
num_after a g raised = slice_set a.num g (if raised then 0 else num_of a g + 1)
