-- When the words of a space stand for a named heap.
use Rattle.std.specs.Prelude.{◌≡◌, ℕ, ◌+◌, ◌*◌, ◌<◌, List, length, Option, Some, IfSome, slice_index}
use Rattle.heap_terms.specs.Heap.{NamedHeap, object_at, entry_at, fill_of}
use Rattle.heap_terms.specs.Layout.{page_words, filler_word}
use Rattle.heap_terms.specs.Objects.{Object, Contents}
use Rattle.heap_terms.specs.Slots.{Slot, Raw, Val, Side, Kept, slot_at}
use Rattle.heap_terms.specs.WellFormed.{IsOwned}
use Rattle.heap_terms.specs.Spelling.{word_of}

-- the word that stands for a slot; nothing is said here of a word that look-up keeps
abbrev pub StandsFor : List (Option Object) → Slot → ℕ → Type 0
StandsFor objects (Raw w) word = word ≡ w
StandsFor objects (Val v) word = word ≡ word_of objects v
StandsFor objects (Side v) word = word ≡ word_of objects v
StandsFor objects Kept word = Unit {0}

-- from an index on the words stand for the slots of an object that holds this
abbrev pub SlotsStand : List (Option Object) → List ℕ → ℕ → Contents → Type 0
SlotsStand objects words from contents =
    (i : ℕ) → IfSome (slot_at contents i) (λ slot. StandsFor objects slot (slice_index words (from + i)))

-- the words that look-up keeps are fixnum 0, until tables are kept by address
abbrev pub KeptStand : List ℕ → ℕ → Contents → Type 0
KeptStand words from contents = (i : ℕ) → slot_at contents i ≡ Some Kept → slice_index words (from + i) ≡ 0

-- The words are those of just as many pages; from each object's place on they stand for its slots, and those that
-- look-up keeps are as it wants them; and each word below a page's fill that belongs to no object is the filler word.
pub record WordsStand (a : NamedHeap) (words : List ℕ) : Type 0 where
  pub long : length words ≡ page_words * length a.pages
  pub spelled : (name : ℕ) → IfSome (object_at a.objects name) (λ o. SlotsStand a.objects words o.place o.contents)
  pub kept : (name : ℕ) → IfSome (object_at a.objects name) (λ o. KeptStand words o.place o.contents)
  pub fillers : (page i : ℕ) → i < fill_of (entry_at a.pages page) → ¬ IsOwned a.objects (page_words * page + i) →
      slice_index words (page_words * page + i) ≡ filler_word
