-- What a pass leaves of an object and of the finalizers, given which names are live: the pairs that a table keeps, that
-- a weak pointer to a dead name becomes broken, and that a dead object's finalizers are queued. These rules are those of
-- SBCL's manual; the order of what remains and of the queue is this project's own. Nothing is left free.
use Rattle.std.specs.Prelude.{ℕ, ◌&&◌, ◌||◌, not, List, [], map, filter, flat_map, Option, Some, None, Bool, true, false, if◌then◌else◌}
use Rattle.heap_terms.specs.declared.cells.Value.{Value}
use Rattle.heap_terms.specs.declared.cells.Value.TheVariants as values
use Rattle.heap_terms.specs.declared.events.Cull.{Cull}
use Rattle.heap_terms.specs.declared.kinds.Weakness.{Weakness}
use Rattle.heap_terms.specs.declared.kinds.Weakness.TheVariants as weaknesses
use Rattle.heap_terms.specs.Generations.{names}
use Rattle.heap_terms.specs.Heap.{NamedHeap, object_at}
use Rattle.heap_terms.specs.Live.{is_live}
use Rattle.heap_terms.specs.Objects.{Object, Contents, ConsOf, VectorOf, InstanceOf, ClosureOf, WordsOf, WeakTo, TableOf}

-- whether a table keeps a pair, from whether its key and its value are live
abbrev pub keeps_pair : Weakness → Bool → Bool → Bool
keeps_pair weaknesses.Strong k v = true
keeps_pair weaknesses.Key k v = k
keeps_pair weaknesses.Value k v = v
keeps_pair weaknesses.KeyAndValue k v = k && v
keeps_pair weaknesses.KeyOrValue k v = k || v

-- the same of a pair
abbrev pub is_kept : (ℕ → Bool) → Weakness → Value × Value → Bool
is_kept live w pair = keeps_pair w (is_live live pair.0) (is_live live pair.1)

-- what remains of the contents of an object that remains
abbrev pub surviving : (ℕ → Bool) → Contents → Contents
surviving live (ConsOf a b) = ConsOf a b
surviving live (VectorOf vs) = VectorOf vs
surviving live (InstanceOf vs) = InstanceOf vs
surviving live (ClosureOf vs) = ClosureOf vs
surviving live (WordsOf ws) = WordsOf ws
surviving live (WeakTo v) = WeakTo (if is_live live v then v else values.Unbound)
surviving live (TableOf w b pairs) = TableOf w b (filter (is_kept live w) pairs)

-- the pairs that are culled from a table of a name, in their order
abbrev pub culled_from : (ℕ → Bool) → ℕ → Contents → List Cull
culled_from live name (ConsOf a b) = []
culled_from live name (VectorOf vs) = []
culled_from live name (InstanceOf vs) = []
culled_from live name (ClosureOf vs) = []
culled_from live name (WordsOf ws) = []
culled_from live name (WeakTo v) = []
culled_from live name (TableOf w b pairs) =
    map (λ pair. record { table = name; key = pair.0; value = pair.1 }) (filter (λ pair. not (is_kept live w pair)) pairs)

-- whether a weak pointer becomes broken
abbrev pub breaks : (ℕ → Bool) → Contents → Bool
breaks live (ConsOf a b) = false
breaks live (VectorOf vs) = false
breaks live (InstanceOf vs) = false
breaks live (ClosureOf vs) = false
breaks live (WordsOf ws) = false
breaks live (WeakTo v) = not (is_live live v)
breaks live (TableOf w b pairs) = false

-- what is culled from the object of a name, if it remains
abbrev pub culls_in : (ℕ → Bool) → ℕ → Option Object → List Cull
culls_in live name None = []
culls_in live name (Some o) = if live name then culled_from live name o.contents else []

-- whether the object of a name remains and becomes broken
abbrev pub breaks_in : (ℕ → Bool) → ℕ → Option Object → Bool
breaks_in live name None = false
breaks_in live name (Some o) = live name && breaks live o.contents

-- all culled pairs, by the name of the table and then in the order of its pairs
abbrev pub culls_of : NamedHeap → (ℕ → Bool) → List Cull
culls_of a live = flat_map (λ name. culls_in live name (object_at a.objects name)) (names a)

-- all weak pointers that become broken, by name
abbrev pub breaks_of : NamedHeap → (ℕ → Bool) → List ℕ
breaks_of a live = filter (λ name. breaks_in live name (object_at a.objects name)) (names a)

-- the finalizers that stay on the list
abbrev pub registered : NamedHeap → (ℕ → Bool) → List (ℕ × ℕ)
registered a live = filter (λ entry. live entry.0) a.finalizers

-- the ids that are queued, in the order of registration
abbrev pub queued_of : NamedHeap → (ℕ → Bool) → List ℕ
queued_of a live = map (λ entry. entry.1) (filter (λ entry. not (live entry.0)) a.finalizers)
