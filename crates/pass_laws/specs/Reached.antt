-- What a user means by reach: a name is reached from a root along fields, and along the pairs of tables that keep both
-- sides. That a pass keeps what is reached is SBCL's. Left free is along which way a name is reached.
use Rattle.std.specs.Prelude.{◌≡◌, ◌≢◌, ℕ, ◌⊎◌, List, Some, Bool, true, slice_index_or, is_some}
use Rattle.heap_terms.specs.declared.cells.Value.{Value}
use Rattle.heap_terms.specs.declared.cells.Value.TheVariants as values
use Rattle.heap_terms.specs.declared.kinds.Weakness.TheVariants as weaknesses
use Rattle.heap_terms.specs.Heap.{NamedHeap, object_at, thread_at, zero_value}
use Rattle.heap_terms.specs.Objects.{Object, Contents, TableOf, fields_of}
use Rattle.heap_terms.specs.Roots.{is_hit}

-- a list of values has a reference to a name
abbrev pub HasName : List Value → ℕ → Type 0
HasName vs name = (i : ℕ) × (slice_index_or vs i zero_value ≡ values.Ref name)

-- a root has the name: it is in an exact cell, or hit, or of a generation that the pass does not collect
abbrev pub IsRoot : NamedHeap → ℕ → ℕ → Type 0
IsRoot a g name =
    ((t : ℕ) × HasName (thread_at a t).exact name) ⊎ HasName a.shared name ⊎ (is_hit a name ≡ true)
    ⊎ ((o : Object) × (object_at a.objects name ≡ Some o) × (o.generation ≢ g))

-- an object refers to a name by a field, or by a side of a pair of a strong table
abbrev pub RefersTo : Contents → ℕ → Type 0
RefersTo k name =
    ((vs : List Value) × (fields_of k ≡ Some vs) × HasName vs name)
    ⊎ ((b : ℕ) × (pairs : List (Value × Value)) × (k ≡ TableOf weaknesses.Strong b pairs)
    × ((i : ℕ) × (((slice_index_or pairs i (zero_value, zero_value)).0 ≡ values.Ref name) ⊎ ((slice_index_or pairs i (zero_value, zero_value)).1 ≡ values.Ref name))))

-- a name is reached: from a root, or from an object that is reached
pub data IsReached (a : NamedHeap) (g : ℕ) : ℕ → Type 0 where
  at_root : (name : ℕ) → IsRoot a g name → IsReached a g name
  by_object : (from : ℕ) (o : Object) (name : ℕ) → IsReached a g from → object_at a.objects from ≡ Some o → RefersTo o.contents name → IsReached a g name

-- whether what a value refers to is there; what refers to nothing always is
abbrev pub is_there : NamedHeap → Value → Bool
is_there a (values.Fix n) = true
is_there a values.Nil = true
is_there a values.Unbound = true
is_there a (values.Ref name) = is_some (object_at a.objects name)
