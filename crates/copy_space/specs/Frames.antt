-- What the steps of a pass leave as it was, from one state to a later one.
use Rattle.std.specs.Prelude.{◌≡◌, ℕ, ◌+◌, ◌<◌, List, ◌++◌, Some, true, slice_index}
use Rattle.heap_terms.specs.Heap.{NamedHeap, object_at}
use Rattle.heap_terms.specs.Objects.{Object, words_of_object}
use Rattle.heap_terms.specs.Slots.{Val, slot_at}
use Rattle.heap_terms.specs.declared.cells.Value.{Value}
use Rattle.copy_space.specs.declared.notes.Move.{Move}
use Rattle.copy_space.specs.Marks.{mark_at, is_set}
use Rattle.copy_space.specs.Moved.{new_of}
use Rattle.copy_space.specs.Settled.{is_settled, IsNewWord}
use Rattle.copy_space.specs.State.{CopyState}

-- The moves grow at their end, and nothing of the pass changes. Marks that are set stay, so what is settled stays
-- settled, and what is settled stays where it is: a pinned object is never met, and a stay never moves.
pub record Grows (a : NamedHeap) (s t : CopyState) : Type 0 where
  pub more : List Move
  pub moves : t.moves ≡ s.moves ++ more
  pub pins : t.pins ≡ s.pins
  pub pass : t.pass ≡ s.pass
  pub room : t.room ≡ s.room
  pub marks : (index : ℕ) → is_set (mark_at s.marks index) ≡ true → mark_at t.marks index ≡ mark_at s.marks index
  pub places : (name : ℕ) (o : Object) → object_at a.objects name ≡ Some o → is_settled a s name ≡ true → new_of t.moves o.place ≡ new_of s.moves o.place

-- a step of placing: besides, no word of a settled object changes
pub record Goes (a : NamedHeap) (s t : CopyState) : Type 0 where
  pub grows : Grows a s t
  pub words : (name : ℕ) (o : Object) → object_at a.objects name ≡ Some o → is_settled a s name ≡ true →
      (i : ℕ) → i < words_of_object o → slice_index t.words (new_of s.moves o.place + i) ≡ slice_index s.words (new_of s.moves o.place + i)

-- a step of scanning: besides, a field of a settled object that has its new word keeps it
pub record Follows (a : NamedHeap) (s t : CopyState) : Type 0 where
  pub grows : Grows a s t
  pub fields : (name : ℕ) (o : Object) → object_at a.objects name ≡ Some o → is_settled a s name ≡ true → (i : ℕ) (v : Value) → slot_at o.contents i ≡ Some (Val v) →
      IsNewWord a s v (slice_index s.words (new_of s.moves o.place + i)) → IsNewWord a t v (slice_index t.words (new_of t.moves o.place + i))

-- an object is scanned: each field has its new word; a step of scanning keeps that
abbrev pub IsScanned : NamedHeap → CopyState → Object → Type 0
IsScanned a s o = (i : ℕ) (v : Value) → slot_at o.contents i ≡ Some (Val v) → IsNewWord a s v (slice_index s.words (new_of s.moves o.place + i))
