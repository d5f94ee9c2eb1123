-- Weak pointers to what is not settled become broken.
use Rattle.std.specs.Prelude.{◌≡◌, ℕ, ◌+◌, ◌≤◌, List, length, slice_index, slice_set, vec_len, vec_capacity, Some, true, not, if◌then◌else◌, ◌++◌, ◌∷◌, []}
use Rattle.heap_terms.specs.declared.cells.Value.{Value}
use Rattle.heap_terms.specs.declared.kinds.Kind.TheVariants as kinds
use Rattle.heap_terms.specs.Heap.{NamedHeap, object_at}
use Rattle.heap_terms.specs.Layout.{header_of, unbound_word}
use Rattle.heap_terms.specs.Live.{is_live}
use Rattle.heap_terms.specs.Objects.{Object, WeakTo}
use Rattle.copy_space.specs.declared.notes.PassNotes.{PassNotes}
use Rattle.copy_space.specs.Midway.{IsPlacedSoFar}
use Rattle.copy_space.specs.Moved.{new_of}
use Rattle.copy_space.specs.Notes.{SameRest}
use Rattle.copy_space.specs.Settled.{is_settled, word_before, word_now}
use Rattle.copy_space.specs.State.{CopyState}
use Rattle.copy_space.specs.CullNotes.{broken_of}
use Rattle.copy_space.specs.WeakNames.{AreNamed}
use Rattle.weak_refs.specs.Rewriting.{AreWeakStarts, IsWeakStart}

-- the notes have room for some more breaks
abbrev pub HasRoomForBreaks : PassNotes → List ℕ → Type 0
HasRoomForBreaks notes more = vec_len notes.breaks + length more ≤ vec_capacity notes.breaks

-- Weak pointers can be broken: the starts are those of weak pointers and tables, the weak pointers stand as the moves left
-- them, and the notes have room for all that become broken.
pub record CanBreak (a : NamedHeap) (s : CopyState) (starts : List ℕ) (notes : PassNotes) : Type 0 where
  pub starts_are : AreWeakStarts a s kinds.Weak starts
  pub names : List ℕ
  pub named : AreNamed a s starts names
  pub room : HasRoomForBreaks notes (broken_of a (is_settled a s) names)

-- the same of one start
pub record CanBreakAt (a : NamedHeap) (s : CopyState) (start : ℕ) (notes : PassNotes) : Type 0 where
  pub places : IsPlacedSoFar a s
  pub start_is : IsWeakStart a s kinds.Weak start
  pub room : HasRoomForBreaks notes (broken_of a (is_settled a s) (start_is.name ∷ []))

-- a settled weak pointer to a value stands now at a start, as the moves left it
pub record IsPointerNow (a : NamedHeap) (s : CopyState) (start : ℕ) : Type 0 where
  pub name : ℕ
  pub o : Object
  pub there : object_at a.objects name ≡ Some o
  pub settled : is_settled a s name ≡ true
  pub here : new_of s.moves o.place ≡ start
  pub v : Value
  pub contents : o.contents ≡ WeakTo v
  pub header : slice_index s.words start ≡ header_of kinds.Weak 1
  pub word : slice_index s.words (start + 1) ≡ word_before a v

pub record CanBreakPointer (a : NamedHeap) (s : CopyState) (start : ℕ) (notes : PassNotes) : Type 0 where
  pub places : IsPlacedSoFar a s
  pub pointer : IsPointerNow a s start
  pub room : not (is_live (is_settled a s) pointer.v) ≡ true → vec_len notes.breaks + 1 ≤ vec_capacity notes.breaks

-- the word that a weak pointer to a value has after the pass
abbrev pub word_left : NamedHeap → CopyState → Value → ℕ
word_left a s v = if is_live (is_settled a s) v then word_now a s v else unbound_word

-- a weak pointer has the word after the pass, and is noted where it became broken
pub record IsPointerLeft (a : NamedHeap) (s t : CopyState) (start place : ℕ) (v : Value) (old new : PassNotes) : Type 0 where
  pub is : t ≡ record s { words = slice_set s.words (start + 1) (word_left a s v) }
  pub noted : new.breaks.items ≡ old.breaks.items ++ (if is_live (is_settled a s) v then [] else place ∷ [])

-- of the notes only the breaks and the moves may be others
pub record SameButBroken (old new : PassNotes) : Type 0 where
  pub rest : SameRest old new
  pub culls : new.culls ≡ old.culls
  pub queued : new.queued ≡ old.queued
