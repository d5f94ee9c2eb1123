-- The slots of an object: what each of its words says, a slot for each word, in their order. So what holds of the words
-- of every kind of object is said of slot i. The layouts are this project's own.
use Rattle.std.specs.Prelude.{ℕ, List, [], ◌∷◌, ◌++◌, map, length, replicate, flat_map, Option, ◌+◌, ◌-◌, ◌*◌, pos, slice_get}
use Rattle.heap_terms.specs.declared.cells.Value.{Value}
use Rattle.heap_terms.specs.declared.cells.Value.TheVariants.{Unbound}
use Rattle.heap_terms.specs.declared.kinds.Kind.{Kind}
use Rattle.heap_terms.specs.declared.kinds.Kind.TheVariants as kinds
use Rattle.heap_terms.specs.Layout.{fixnum_word, header_of, size_with_header, weakness_number}
use Rattle.heap_terms.specs.Objects.{Contents, ConsOf, VectorOf, InstanceOf, ClosureOf, WordsOf, WeakTo, TableOf}

-- A slot is a word as it is (a header, a raw word, a number); a value; a side: a key or a value of a table, or what a
-- weak pointer points to, which goes by a rule of its own in a collection; or a word that look-up keeps for itself:
-- a table's flag, and its last two words for each pair that it has room for.
pub data Slot : Type 0 where
  Raw : ℕ → Slot
  Val : Value → Slot
  Side : Value → Slot
  Kept : Slot

-- a header, a payload, and a word 0 where that is needed for an even number
abbrev pub under_header : Kind → List Slot → List Slot
under_header kind payload =
    Raw (header_of kind (length payload)) ∷ (payload ++ replicate (size_with_header (length payload) - (length payload + 1)) (Raw 0))

-- a table's pairs, with unbound sides after them up to its capacity
abbrev pub pair_slots : ℕ → List (Value × Value) → List Slot
pair_slots b pairs = flat_map (λ pair. Side pair.0 ∷ Side pair.1 ∷ []) pairs ++ replicate (2 * (b - length pairs)) (Side Unbound)

-- the slots of an object from its first word on
abbrev pub slots : Contents → List Slot
slots (ConsOf a b) = Val a ∷ Val b ∷ []
slots (VectorOf vs) = under_header kinds.Vector (map Val vs)
slots (InstanceOf vs) = under_header kinds.Instance (map Val vs)
slots (ClosureOf vs) = under_header kinds.Closure (map Val vs)
slots (WordsOf ws) = under_header kinds.Words (map Raw ws)
slots (WeakTo v) = under_header kinds.Weak (Side v ∷ [])
slots (TableOf w b pairs) = under_header kinds.Table
    (Raw (fixnum_word (pos (weakness_number w))) ∷ Kept ∷ Raw (fixnum_word (pos (length pairs)))
    ∷ (pair_slots b pairs ++ replicate (2 * b) Kept))

-- slot i, if there are so many
abbrev pub slot_at : Contents → ℕ → Option Slot
slot_at contents i = slice_get (slots contents) i
