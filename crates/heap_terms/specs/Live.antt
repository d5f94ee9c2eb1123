-- Live names in a pass over generation g: the least set of names that is closed under what roots and objects keep.
-- The rules of weak tables are those of SBCL's manual; weak pointers and finalizers keep nothing, as there. Nothing
-- is left free: there is one least set. A set of names is a test.
use Rattle.std.specs.Prelude.{◌≡◌, ◌≢◌, ℕ, List, Some, Bool, true, slice_index_or}
use Rattle.heap_terms.specs.declared.cells.Value.{Value}
use Rattle.heap_terms.specs.declared.cells.Value.TheVariants as values
use Rattle.heap_terms.specs.declared.kinds.Weakness.{Weakness}
use Rattle.heap_terms.specs.declared.kinds.Weakness.TheVariants as weaknesses
use Rattle.heap_terms.specs.Heap.{NamedHeap, object_at, thread_at, zero_value}
use Rattle.heap_terms.specs.Objects.{Object, Contents, ConsOf, VectorOf, InstanceOf, ClosureOf, WordsOf, WeakTo, TableOf}
use Rattle.heap_terms.specs.Roots.{is_hit}

-- whether a value is live where these names are; one that is no reference always is
abbrev pub is_live : (ℕ → Bool) → Value → Bool
is_live set (values.Fix n) = true
is_live set values.Nil = true
is_live set values.Unbound = true
is_live set (values.Ref name) = set name

-- each of a list of values is live
abbrev pub AreLive : (ℕ → Bool) → List Value → Type 0
AreLive set vs = (i : ℕ) → is_live set (slice_index_or vs i zero_value) ≡ true

-- what a pair of a table keeps, from whether its key and its value are live: strong both sides, key the value where
-- the key is live, value the key where the value is live, key-or-value each side where the other is live, and
-- key-and-value nothing
abbrev pub KeepsSides : Weakness → Bool → Bool → Type 0
KeepsSides weaknesses.Strong k v = (k ≡ true) × (v ≡ true)
KeepsSides weaknesses.Key k v = k ≡ true → v ≡ true
KeepsSides weaknesses.Value k v = v ≡ true → k ≡ true
KeepsSides weaknesses.KeyAndValue k v = Unit {0}
KeepsSides weaknesses.KeyOrValue k v = (k ≡ true → v ≡ true) × (v ≡ true → k ≡ true)

-- each pair of a table keeps what its weakness says
abbrev pub KeepPairs : (ℕ → Bool) → Weakness → List (Value × Value) → Type 0
KeepPairs set w pairs = (i : ℕ) → let pair = slice_index_or pairs i (zero_value, zero_value) in
    KeepsSides w (is_live set pair.0) (is_live set pair.1)

-- what a live object keeps is live: the fields of a cons, vector, instance or closure, and the sides of a table's
-- pairs; raw words and weak pointers keep nothing
abbrev pub Keeps : (ℕ → Bool) → Contents → Type 0
Keeps set (ConsOf a b) = (is_live set a ≡ true) × (is_live set b ≡ true)
Keeps set (VectorOf vs) = AreLive set vs
Keeps set (InstanceOf vs) = AreLive set vs
Keeps set (ClosureOf vs) = AreLive set vs
Keeps set (WordsOf ws) = Unit {0}
Keeps set (WeakTo v) = Unit {0}
Keeps set (TableOf w b pairs) = KeepPairs set w pairs

-- A set is closed in a pass over generation g: it has each name of another generation, each name in an exact cell,
-- each name that is hit, and what each of its own objects keeps.
pub record IsClosed (a : NamedHeap) (g : ℕ) (set : ℕ → Bool) : Type 0 where
  pub others : (name : ℕ) (o : Object) → object_at a.objects name ≡ Some o → o.generation ≢ g → set name ≡ true
  pub exact : (t : ℕ) → AreLive set (thread_at a t).exact
  pub shared : AreLive set a.shared
  pub hit : (name : ℕ) → is_hit a name ≡ true → set name ≡ true
  pub members : (name : ℕ) (o : Object) → object_at a.objects name ≡ Some o → set name ≡ true → Keeps set o.contents

-- the live names: they are closed, and every closed set has them
pub record AreLiveNames (a : NamedHeap) (g : ℕ) (set : ℕ → Bool) : Type 0 where
  pub closed : IsClosed a g set
  pub least : (other : ℕ → Bool) → IsClosed a g other → (name : ℕ) → set name ≡ true → other name ≡ true
