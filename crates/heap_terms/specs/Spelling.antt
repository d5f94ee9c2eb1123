-- The words of values and objects, given where the objects lie.
use Rattle.std.specs.Prelude.{ℕ, List, [], ◌∷◌, ◌++◌, map, length, replicate, flat_map, Option, Some, None, ◌+◌, ◌-◌, ◌*◌, ◌^◌, pos}
use Rattle.heap_terms.specs.declared.cells.Value.{Value}
use Rattle.heap_terms.specs.declared.cells.Value.TheVariants.{Fix, Nil, Unbound, Ref}
use Rattle.heap_terms.specs.declared.kinds.Kind.{Kind}
use Rattle.heap_terms.specs.declared.kinds.Kind.TheVariants as kinds
use Rattle.heap_terms.specs.Layout.{nil_word, unbound_word, reference_word, fixnum_word, header_of, size_with_header, weakness_number}
use Rattle.heap_terms.specs.Objects.{Object, Contents, ConsOf, VectorOf, InstanceOf, ClosureOf, WordsOf, WeakTo, TableOf, kind_of}
use Rattle.heap_terms.specs.Heap.{object_at}

-- the word of a reference to an object; a name that is gone has no word, and a number that is no word stands for that
abbrev pub word_of_object : Option Object → ℕ
word_of_object None = 2 ^ 64
word_of_object (Some o) = reference_word o.place (kind_of o.contents)

-- the word of a value
abbrev pub word_of : List (Option Object) → Value → ℕ
word_of objects (Fix n) = fixnum_word n
word_of objects Nil = nil_word
word_of objects Unbound = unbound_word
word_of objects (Ref name) = word_of_object (object_at objects name)

-- a header, a payload, and a word 0 where that is needed for an even number
abbrev pub with_header : Kind → List ℕ → List ℕ
with_header kind payload =
    header_of kind (length payload) ∷ (payload ++ replicate (size_with_header (length payload) - (length payload + 1)) 0)

-- the words of a table's pairs, with unbound slots after them up to its capacity
abbrev pub pair_words : List (Option Object) → ℕ → List (Value × Value) → List ℕ
pair_words objects b pairs =
    flat_map (λ pair. word_of objects pair.0 ∷ word_of objects pair.1 ∷ []) pairs ++ replicate (2 * (b - length pairs)) unbound_word

-- The words of an object, from its first one on, as a region builds it: those of its slots. The words that a table's
-- look-up keeps for itself begin as fixnum 0.
abbrev pub spelling : List (Option Object) → Contents → List ℕ
spelling objects (ConsOf a b) = word_of objects a ∷ word_of objects b ∷ []
spelling objects (VectorOf vs) = with_header kinds.Vector (map (word_of objects) vs)
spelling objects (InstanceOf vs) = with_header kinds.Instance (map (word_of objects) vs)
spelling objects (ClosureOf vs) = with_header kinds.Closure (map (word_of objects) vs)
spelling objects (WordsOf ws) = with_header kinds.Words ws
spelling objects (WeakTo v) = with_header kinds.Weak (word_of objects v ∷ [])
spelling objects (TableOf w b pairs) = with_header kinds.Table
    (fixnum_word (pos (weakness_number w)) ∷ fixnum_word (pos 0) ∷ fixnum_word (pos (length pairs))
    ∷ (pair_words objects b pairs ++ replicate (2 * b) 0))
