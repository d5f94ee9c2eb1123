-- Laws of slots: the words that stand for an object, however they are told.
use Rattle.std.specs.Prelude.{◌≡◌, ◌≢◌, ◌↔◌, ℕ, ◌+◌, ◌<◌, ◌≤◌, List, length, map, Option, Some, slice_index}
use Rattle.heap_terms.specs.declared.kinds.Kind.TheVariants as kinds
use Rattle.heap_terms.specs.Layout.{size_of, header_of}
use Rattle.heap_terms.specs.Objects.{Object, Contents, ConsOf, VectorOf, InstanceOf, ClosureOf, WordsOf, WeakTo, TableOf, kind_of, payload_of}
use Rattle.heap_terms.specs.Slots.{Slot, Raw, Val, Side, Kept, slots, slot_at}
use Rattle.heap_terms.specs.Stands.{SlotsStand, KeptStand}
use Rattle.heap_terms.specs.Spelling.{word_of, spelling}

-- the word of a slot in a region; a word that look-up keeps begins as fixnum 0
abbrev pub word_of_slot : List (Option Object) → Slot → ℕ
word_of_slot objects (Raw w) = w
word_of_slot objects (Val v) = word_of objects v
word_of_slot objects (Side v) = word_of objects v
word_of_slot objects Kept = 0

-- the words from an index on are these
abbrev pub AreAt : List ℕ → ℕ → List ℕ → Type 0
AreAt words from ws = (i : ℕ) → i < length ws → slice_index words (from + i) ≡ slice_index ws i

-- a table has no more pairs than its capacity
abbrev pub IsWithinCapacity : Contents → Type 0
IsWithinCapacity (ConsOf a b) = Unit {0}
IsWithinCapacity (VectorOf vs) = Unit {0}
IsWithinCapacity (InstanceOf vs) = Unit {0}
IsWithinCapacity (ClosureOf vs) = Unit {0}
IsWithinCapacity (WordsOf ws) = Unit {0}
IsWithinCapacity (WeakTo v) = Unit {0}
IsWithinCapacity (TableOf w b pairs) = length pairs ≤ b

-- a region builds the words of an object's slots; and from an index on the words are those that a region builds just
-- where they stand for the slots and the words that look-up keeps are fixnum 0
abbrev pub SlotsAreSpelled : Type 0
SlotsAreSpelled =
    ((objects : List (Option Object)) (contents : Contents) → map (word_of_slot objects) (slots contents) ≡ spelling objects contents)
    × ((objects : List (Option Object)) (words : List ℕ) (from : ℕ) (contents : Contents) →
    AreAt words from (spelling objects contents) ↔ (SlotsStand objects words from contents × KeptStand words from contents))

-- there is a slot for each word of an object
abbrev pub SlotsAreItsWords : Type 0
SlotsAreItsWords = (contents : Contents) → IsWithinCapacity contents → length (slots contents) ≡ size_of (kind_of contents) (payload_of contents)

-- the first slot of each object but a cons is its header
abbrev pub HeadersLead : Type 0
HeadersLead = (contents : Contents) → IsWithinCapacity contents → kind_of contents ≢ kinds.Cons →
    slot_at contents 0 ≡ Some (Raw (header_of (kind_of contents) (payload_of contents)))
