-- Values and contents as they may stand in a heap: values are living, and an object has the shape of its kind. All ranges
-- are this project's own; that a broken weak pointer holds something else than a value is SBCL's. Left free is which
-- values and words they are.
use Rattle.std.specs.Prelude.{◌≢◌, ℕ, ◌^◌, ◌<◌, ◌≤◌, List, AllPairs, length, map, Option, IsSome, slice_index_or}
use Rattle.heap_terms.specs.declared.limits.TheConstants.{MOST_ELEMENTS, MOST_PAIRS}
use Rattle.heap_terms.specs.declared.cells.Value.{Value}
use Rattle.heap_terms.specs.declared.cells.Value.TheVariants.{Fix, Nil, Unbound, Ref}
use Rattle.heap_terms.specs.Heap.{object_at, zero_value}
use Rattle.heap_terms.specs.Objects.{Object, Contents, ConsOf, VectorOf, InstanceOf, ClosureOf, WordsOf, WeakTo, TableOf}
use Rattle.heap_terms.specs.Valid.{IsFixnum}

-- a value that a cell or a field can hold: a fixnum in range, NIL, or a reference to an object that is there
abbrev pub IsLiving : List (Option Object) → Value → Type 0
IsLiving objects (Fix n) = IsFixnum n
IsLiving objects Nil = Unit {0}
IsLiving objects Unbound = ⊥
IsLiving objects (Ref name) = IsSome (object_at objects name)

-- what a weak pointer can hold: a value as above, or Unbound once it is broken
abbrev pub IsLivingOrUnbound : List (Option Object) → Value → Type 0
IsLivingOrUnbound objects (Fix n) = IsFixnum n
IsLivingOrUnbound objects Nil = Unit {0}
IsLivingOrUnbound objects Unbound = Unit {0}
IsLivingOrUnbound objects (Ref name) = IsSome (object_at objects name)

-- each of a list of values is living
abbrev pub AreLiving : List (Option Object) → List Value → Type 0
AreLiving objects vs = (i : ℕ) → IsLiving objects (slice_index_or vs i zero_value)

-- the values in an object are living
abbrev pub HoldsLiving : List (Option Object) → Contents → Type 0
HoldsLiving objects (ConsOf a b) = IsLiving objects a × IsLiving objects b
HoldsLiving objects (VectorOf vs) = AreLiving objects vs
HoldsLiving objects (InstanceOf vs) = AreLiving objects vs
HoldsLiving objects (ClosureOf vs) = AreLiving objects vs
HoldsLiving objects (WordsOf ws) = Unit {0}
HoldsLiving objects (WeakTo v) = IsLivingOrUnbound objects v
HoldsLiving objects (TableOf w b pairs) = AreLiving objects (map (λ pair. pair.0) pairs) × AreLiving objects (map (λ pair. pair.1) pairs)

-- each element of a list is below a bound
abbrev pub AreBelow : ℕ → List ℕ → Type 0
AreBelow bound ws = (i : ℕ) → slice_index_or ws i 0 < bound

-- the keys of a table's pairs are distinct
abbrev pub AreDistinctKeys : List (Value × Value) → Type 0
AreDistinctKeys pairs = AllPairs (λ (x y : Value × Value). x.0 ≢ y.0) pairs

-- an object has the shape of its kind: at most 65,535 words of payload, raw words of 64 bits, and in a table room for
-- 1 to 64 pairs, no more pairs than that, and each key once
abbrev pub IsShaped : Contents → Type 0
IsShaped (ConsOf a b) = Unit {0}
IsShaped (VectorOf vs) = length vs ≤ MOST_ELEMENTS
IsShaped (InstanceOf vs) = length vs ≤ MOST_ELEMENTS
IsShaped (ClosureOf vs) = length vs ≤ MOST_ELEMENTS
IsShaped (WordsOf ws) = (length ws ≤ MOST_ELEMENTS) × AreBelow (2 ^ 64) ws
IsShaped (WeakTo v) = Unit {0}
IsShaped (TableOf w b pairs) = (1 ≤ b) × (b ≤ MOST_PAIRS) × (length pairs ≤ b) × AreDistinctKeys pairs
