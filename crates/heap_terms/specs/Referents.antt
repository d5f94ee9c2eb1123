-- What a value refers to, and how an object is changed in its place. That objects have names in place of addresses
-- is this project's own. Nothing is left free: a value that refers to nothing that is there gives nothing, and a
-- change of it changes nothing.
use Rattle.std.specs.Prelude.{ℕ, zero, suc, List, Option, Some, None, option_and_then, slice_set}
use Rattle.heap_terms.specs.declared.cells.Value.{Value}
use Rattle.heap_terms.specs.declared.cells.Value.TheVariants as values
use Rattle.heap_terms.specs.declared.kinds.Weakness.{Weakness}
use Rattle.heap_terms.specs.Heap.{object_at}
use Rattle.heap_terms.specs.Objects.{Object, Contents, ConsOf, VectorOf, InstanceOf, ClosureOf, WordsOf, WeakTo, TableOf, fields_of}

-- the name that a value refers to
abbrev pub name_in : Value → Option ℕ
name_in (values.Fix n) = None
name_in values.Nil = None
name_in values.Unbound = None
name_in (values.Ref name) = Some name

-- what an object holds, if it is there
abbrev pub contents_of : Option Object → Option Contents
contents_of None = None
contents_of (Some o) = Some o.contents

-- what the object that a value refers to holds
abbrev pub contents_at : List (Option Object) → Value → Option Contents
contents_at objects v = option_and_then (λ name. contents_of (object_at objects name)) (name_in v)

-- its fields, if it is a cons, vector, instance or closure
abbrev pub fields_at : List (Option Object) → Value → Option (List Value)
fields_at objects v = option_and_then fields_of (contents_at objects v)

-- the contents with one field changed
abbrev pub with_field : Contents → ℕ → Value → Contents
with_field (ConsOf a b) zero v = ConsOf v b
with_field (ConsOf a b) (suc zero) v = ConsOf a v
with_field (ConsOf a b) (suc (suc i)) v = ConsOf a b
with_field (VectorOf vs) i v = VectorOf (slice_set vs i v)
with_field (InstanceOf vs) i v = InstanceOf (slice_set vs i v)
with_field (ClosureOf vs) i v = ClosureOf (slice_set vs i v)
with_field (WordsOf ws) i v = WordsOf ws
with_field (WeakTo w) i v = WeakTo w
with_field (TableOf w b pairs) i v = TableOf w b pairs

-- the raw words that `rawget` and `rawput` reach
abbrev pub raws_of : Contents → Option (List ℕ)
raws_of (ConsOf a b) = None
raws_of (VectorOf vs) = None
raws_of (InstanceOf vs) = None
raws_of (ClosureOf vs) = None
raws_of (WordsOf ws) = Some ws
raws_of (WeakTo v) = None
raws_of (TableOf w b pairs) = None

-- those of the object that a value refers to
abbrev pub raws_at : List (Option Object) → Value → Option (List ℕ)
raws_at objects v = option_and_then raws_of (contents_at objects v)

-- what a weak pointer points to
abbrev pub pointee_of : Contents → Option Value
pointee_of (ConsOf a b) = None
pointee_of (VectorOf vs) = None
pointee_of (InstanceOf vs) = None
pointee_of (ClosureOf vs) = None
pointee_of (WordsOf ws) = None
pointee_of (WeakTo v) = Some v
pointee_of (TableOf w b pairs) = None

-- what the weak pointer that a value refers to points to
abbrev pub pointee_at : List (Option Object) → Value → Option Value
pointee_at objects v = option_and_then pointee_of (contents_at objects v)

-- a table: its weakness, its capacity and its pairs
pub record Table : Type 0 where
  pub weakness : Weakness
  pub capacity : ℕ
  pub pairs : List (Value × Value)

abbrev pub table_of : Contents → Option Table
table_of (ConsOf a b) = None
table_of (VectorOf vs) = None
table_of (InstanceOf vs) = None
table_of (ClosureOf vs) = None
table_of (WordsOf ws) = None
table_of (WeakTo v) = None
table_of (TableOf w b pairs) = Some (record { weakness = w; capacity = b; pairs = pairs })

-- the table that a value refers to
abbrev pub table_at : List (Option Object) → Value → Option Table
table_at objects v = option_and_then table_of (contents_at objects v)

-- the contents with raw words, or with pairs, in place of those that were there
abbrev pub with_raws : Contents → List ℕ → Contents
with_raws (ConsOf a b) ws = ConsOf a b
with_raws (VectorOf vs) ws = VectorOf vs
with_raws (InstanceOf vs) ws = InstanceOf vs
with_raws (ClosureOf vs) ws = ClosureOf vs
with_raws (WordsOf old) ws = WordsOf ws
with_raws (WeakTo v) ws = WeakTo v
with_raws (TableOf w b pairs) ws = TableOf w b pairs

abbrev pub with_pairs : Contents → List (Value × Value) → Contents
with_pairs (ConsOf a b) pairs = ConsOf a b
with_pairs (VectorOf vs) pairs = VectorOf vs
with_pairs (InstanceOf vs) pairs = InstanceOf vs
with_pairs (ClosureOf vs) pairs = ClosureOf vs
with_pairs (WordsOf ws) pairs = WordsOf ws
with_pairs (WeakTo v) pairs = WeakTo v
with_pairs (TableOf w b old) pairs = TableOf w b pairs

-- an object that holds something else; one that is gone stays gone
abbrev pub refilled : Option Object → (Contents → Contents) → Option Object
refilled None change = None
refilled (Some o) change = Some (record o { contents = change o.contents })

-- the objects after the one that a value refers to was changed
abbrev pub changed_at : List (Option Object) → Value → (Contents → Contents) → List (Option Object)
changed_at objects (values.Fix n) change = objects
changed_at objects values.Nil change = objects
changed_at objects values.Unbound change = objects
changed_at objects (values.Ref name) change = slice_set objects name (refilled (object_at objects name) change)

-- the objects after a field of the one that a value refers to was changed
abbrev pub with_field_at : List (Option Object) → Value → ℕ → Value → List (Option Object)
with_field_at objects at i v = changed_at objects at (λ k. with_field k i v)
