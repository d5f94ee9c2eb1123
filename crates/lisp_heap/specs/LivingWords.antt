-- What the words of values are read as: the objects to which they refer, and where fields and raw words lie.
use Rattle.std.specs.Prelude.{◌≡◌, ◌≢◌, ℕ, ◌+◌, List, Option, Some, None}
use Rattle.heap_terms.specs.declared.cells.Value.{Value}
use Rattle.heap_terms.specs.declared.cells.Value.TheVariants as values
use Rattle.heap_terms.specs.declared.kinds.Kind.{Kind}
use Rattle.heap_terms.specs.declared.kinds.Kind.TheVariants as kinds
use Rattle.heap_terms.specs.Heap.{NamedHeap, object_at}
use Rattle.heap_terms.specs.Objects.{Object, kind_of, payload_of, fields_of}
use Rattle.heap_terms.specs.Referents.{fields_at, name_in, raws_at, raws_of}
use Rattle.heap_terms.specs.WellFormed.{IsLiving}
use Rattle.heap_terms.specs.Spelling.{word_of}
use Rattle.lisp_heap.specs.declared.referents.Referent.{Referent}
use Rattle.lisp_heap.specs.declared.referents.Span.{Span}

-- the word of a living value
pub record IsWord (a : NamedHeap) (word : ℕ) : Type 0 where
  pub value : Value
  pub living : IsLiving a.objects value
  pub word_is : word ≡ word_of a.objects value

-- a value refers to an object
pub record RefersTo (objects : List (Option Object)) (v : Value) (o : Object) : Type 0 where
  pub name : ℕ
  pub value_is : v ≡ values.Ref name
  pub there : object_at objects name ≡ Some o

-- where the object begins to which a value refers, its kind and its words of payload; or that it refers to none
abbrev pub IsReferent : List (Option Object) → Value → Option Referent → Type 0
IsReferent objects v None = name_in v ≡ None
IsReferent objects v (Some r) =
    (o : Object) × RefersTo objects v o × (r.index ≡ o.place) × (r.kind ≡ kind_of o.contents) × (r.n ≡ payload_of o.contents)

-- where the object of a kind begins to which a value refers, or that it refers to none of that kind
abbrev pub IsOfKind : List (Option Object) → Value → Kind → Option ℕ → Type 0
IsOfKind objects v kind None = (o : Object) → RefersTo objects v o → kind_of o.contents ≢ kind
IsOfKind objects v kind (Some index) = (o : Object) × RefersTo objects v o × (kind_of o.contents ≡ kind) × (index ≡ o.place)

-- how many words stand before the payload: the header, which conses lack
abbrev pub header_words : Kind → ℕ
header_words kinds.Cons = 0
header_words kinds.Vector = 1
header_words kinds.Instance = 1
header_words kinds.Closure = 1
header_words kinds.Words = 1
header_words kinds.Weak = 1
header_words kinds.Table = 1

-- a span is the payload of an object to which a value refers
pub record IsPayload (objects : List (Option Object)) (v : Value) (span : Span) : Type 0 where
  pub object : Object
  pub refers : RefersTo objects v object
  pub first : span.first ≡ object.place + header_words (kind_of object.contents)
  pub count : span.count ≡ payload_of object.contents

-- where the fields are of the object to which a value refers, or that it refers to none with fields
abbrev pub AreFields : List (Option Object) → Value → Option Span → Type 0
AreFields objects v None = fields_at objects v ≡ None
AreFields objects v (Some span) =
    (payload : IsPayload objects v span) × (fields : List Value) × (fields_of payload.object.contents ≡ Some fields)

-- where the raw words are of the object to which a value refers, or that it refers to none with raw words
abbrev pub AreRaws : List (Option Object) → Value → Option Span → Type 0
AreRaws objects v None = raws_at objects v ≡ None
AreRaws objects v (Some span) =
    (payload : IsPayload objects v span) × (words : List ℕ) × (raws_of payload.object.contents ≡ Some words)
