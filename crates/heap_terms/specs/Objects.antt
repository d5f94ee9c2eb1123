-- Objects of the named heap. What they hold is this project's own.
use Rattle.std.specs.Prelude.{ℕ, List, [], ◌∷◌, length, Option, Some, None, ◌+◌, ◌*◌}
use Rattle.heap_terms.specs.declared.cells.Value.{Value}
use Rattle.heap_terms.specs.declared.kinds.Kind.{Kind}
use Rattle.heap_terms.specs.declared.kinds.Kind.TheVariants as kinds
use Rattle.heap_terms.specs.declared.kinds.Weakness.{Weakness}
use Rattle.heap_terms.specs.Layout.{size_of}

-- what an object holds: a table has its weakness, its capacity in pairs, and its pairs in the order of their keys' coming
pub data Contents : Type 0 where
  ConsOf : Value → Value → Contents
  VectorOf : List Value → Contents
  InstanceOf : List Value → Contents
  ClosureOf : List Value → Contents
  WordsOf : List ℕ → Contents
  WeakTo : Value → Contents
  TableOf : Weakness → ℕ → List (Value × Value) → Contents

-- an object of the named heap: its generation from 0 to 6, the index of its first word, and what it holds
pub record Object : Type 0 where
  pub generation : ℕ
  pub place : ℕ
  pub contents : Contents

-- the kind of an object, by what it holds
abbrev pub kind_of : Contents → Kind
kind_of (ConsOf a b) = kinds.Cons
kind_of (VectorOf vs) = kinds.Vector
kind_of (InstanceOf vs) = kinds.Instance
kind_of (ClosureOf vs) = kinds.Closure
kind_of (WordsOf ws) = kinds.Words
kind_of (WeakTo v) = kinds.Weak
kind_of (TableOf w b pairs) = kinds.Table

-- how many words of payload it has; a cons has two words and no header
abbrev pub payload_of : Contents → ℕ
payload_of (ConsOf a b) = 2
payload_of (VectorOf vs) = length vs
payload_of (InstanceOf vs) = length vs
payload_of (ClosureOf vs) = length vs
payload_of (WordsOf ws) = length ws
payload_of (WeakTo v) = 1
payload_of (TableOf w b pairs) = 3 + 4 * b

-- how many words it takes, an even number
abbrev pub words_of_object : Object → ℕ
words_of_object o = size_of (kind_of o.contents) (payload_of o.contents)

-- the fields that `get` and `put` reach: those of conses, vectors, instances and closures
abbrev pub fields_of : Contents → Option (List Value)
fields_of (ConsOf a b) = Some (a ∷ b ∷ [])
fields_of (VectorOf vs) = Some vs
fields_of (InstanceOf vs) = Some vs
fields_of (ClosureOf vs) = Some vs
fields_of (WordsOf ws) = None
fields_of (WeakTo v) = None
fields_of (TableOf w b pairs) = None
