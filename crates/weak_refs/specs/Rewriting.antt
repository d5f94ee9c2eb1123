-- Objects of one kind, weak pointers or tables, get the words that they have after the pass, each by itself.
use Rattle.std.specs.Prelude.{◌≡◌, ℕ, ◌+◌, ◌<◌, ◌≤◌, List, length, slice_index, Some, true}
use Rattle.heap_terms.specs.declared.kinds.Kind.{Kind}
use Rattle.heap_terms.specs.Heap.{NamedHeap, object_at}
use Rattle.heap_terms.specs.Layout.{header_of}
use Rattle.heap_terms.specs.Objects.{Object, kind_of, payload_of, words_of_object}
use Rattle.heap_terms.specs.Stands.{KeptStand}
use Rattle.copy_space.specs.declared.copier.Copier.{Copier}
use Rattle.copy_space.specs.Midway.{IsPlacedSoFar, SlotsMidway}
use Rattle.copy_space.specs.Moved.{new_of}
use Rattle.copy_space.specs.Settled.{is_settled}
use Rattle.copy_space.specs.State.{CopyState}
use Rattle.copy_space.specs.Surviving.{StandsAfter}
use Rattle.copy_space.specs.WeakNames.{IsWeakAt}

-- the words of a settled object, as they were left by the moves of the pass
pub record StandsAsLeft (a : NamedHeap) (s : CopyState) (o : Object) : Type 0 where
  pub slots : SlotsMidway a s (new_of s.moves o.place) o.contents
  pub kept : KeptStand s.words (new_of s.moves o.place) o.contents

-- the name of a weak pointer or table at a start; its first word is its header, and one of a kind stands as the moves left it
pub record IsWeakStart (a : NamedHeap) (s : CopyState) (kind : Kind) (start : ℕ) : Type 0 where
  pub name : ℕ
  pub at : IsWeakAt a s name start
  pub header : slice_index s.words start ≡ header_of (kind_of at.o.contents) (payload_of at.o.contents)
  pub before : kind_of at.o.contents ≡ kind → StandsAsLeft a s at.o

-- the same at each of some starts
pub record AreWeakStarts (a : NamedHeap) (s : CopyState) (kind : Kind) (starts : List ℕ) : Type 0 where
  pub places : IsPlacedSoFar a s
  pub each : (k : ℕ) → k < length starts → IsWeakStart a s kind (slice_index starts k)

-- an index is one of a settled object of a kind that stands now at a start
pub record IsIn (a : NamedHeap) (s : CopyState) (kind : Kind) (start index : ℕ) : Type 0 where
  pub name : ℕ
  pub o : Object
  pub there : object_at a.objects name ≡ Some o
  pub settled : is_settled a s name ≡ true
  pub here : new_of s.moves o.place ≡ start
  pub is_kind : kind_of o.contents ≡ kind
  pub from : start ≤ index
  pub below : index < start + words_of_object o

-- the same of one of the first n of some starts
pub record IsInSome (a : NamedHeap) (s : CopyState) (kind : Kind) (starts : List ℕ) (n index : ℕ) : Type 0 where
  pub k : ℕ
  pub first : k < n
  pub is : IsIn a s kind (slice_index starts k) index

-- what stands at a start has its words after the pass, if it is of a kind, and nothing else has changed
pub record IsRewritten (a : NamedHeap) (s t : CopyState) (kind : Kind) (start : ℕ) : Type 0 where
  pub same : t ≡ record s { words = t.words }
  pub places : IsPlacedSoFar a t
  pub after : (name : ℕ) (o : Object) → object_at a.objects name ≡ Some o → is_settled a s name ≡ true → new_of s.moves o.place ≡ start →
      kind_of o.contents ≡ kind → StandsAfter a s t o
  pub others : (index : ℕ) → ¬ IsIn a s kind start index → slice_index t.words index ≡ slice_index s.words index

-- the same of the first n of some starts
pub record AreRewritten (a : NamedHeap) (s t : CopyState) (kind : Kind) (starts : List ℕ) (n : ℕ) : Type 0 where
  pub same : t ≡ record s { words = t.words }
  pub places : IsPlacedSoFar a t
  pub after : (k name : ℕ) (o : Object) → k < n → object_at a.objects name ≡ Some o → is_settled a s name ≡ true →
      new_of s.moves o.place ≡ slice_index starts k → kind_of o.contents ≡ kind → StandsAfter a s t o
  pub others : (index : ℕ) → ¬ IsInSome a s kind starts n index → slice_index t.words index ≡ slice_index s.words index

-- a copier has the same parts as before
pub record HasSameParts (old new : Copier) : Type 0 where
  pub same_space : new.space.ghost_name ≡ old.space.ghost_name
  pub same_pages : new.pages.ghost_name ≡ old.pages.ghost_name
  pub same_marks : new.marks.ghost_name ≡ old.marks.ghost_name
  pub same_notes : new.notes.ghost_name ≡ old.notes.ghost_name
