-- Where fields and objects stand in the middle of a pass, and what it is to scan one field, a stretch of fields, an object.
use Rattle.std.specs.Prelude.{◌≡◌, ℕ, ◌+◌, ◌%◌, ◌<◌, ◌≤◌, List, Some, Bool, true, false, length, slice_index}
use Rattle.heap_terms.specs.declared.cells.Value.{Value}
use Rattle.heap_terms.specs.declared.kinds.Kind.{Kind}
use Rattle.heap_terms.specs.declared.kinds.Kind.TheVariants as kinds
use Rattle.heap_terms.specs.Heap.{NamedHeap, object_at}
use Rattle.heap_terms.specs.Objects.{Object}
use Rattle.heap_terms.specs.Slots.{Val, slot_at}
use Rattle.copy_space.specs.declared.copier.Copier.{Copier}
use Rattle.copy_space.specs.Midway.{Midway}
use Rattle.copy_space.specs.Moved.{new_of}
use Rattle.copy_space.specs.Notes.{SameButMoves}
use Rattle.copy_space.specs.Settled.{is_settled, IsNewWord}
use Rattle.copy_space.specs.State.{CopyState}
use Rattle.scavenge.specs.Noting.{IsDone}

-- the word at an index is slot i of a settled object, a field that holds the value v
pub record IsFieldAt (a : NamedHeap) (s : CopyState) (index : ℕ) : Type 0 where
  pub name : ℕ
  pub o : Object
  pub there : object_at a.objects name ≡ Some o
  pub settled : is_settled a s name ≡ true
  pub i : ℕ
  pub v : Value
  pub field : slot_at o.contents i ≡ Some (Val v)
  pub here : new_of s.moves o.place + i ≡ index

-- so many words from an index on are fields of settled objects
pub record CanScanFields (a : NamedHeap) (s : CopyState) (from count : ℕ) : Type 0 where
  pub midway : Midway a s
  pub inside : from + count ≤ length s.words
  pub fields : (k : ℕ) → k < count → IsFieldAt a s (from + k)

-- each field among so many words from an index on has its new word
abbrev pub AreNew : NamedHeap → CopyState → CopyState → ℕ → ℕ → Type 0
AreNew a s t from count = (name : ℕ) (o : Object) → object_at a.objects name ≡ Some o → is_settled a s name ≡ true → (i : ℕ) (v : Value) →
    slot_at o.contents i ≡ Some (Val v) → from ≤ new_of s.moves o.place + i → new_of s.moves o.place + i < from + count →
    IsNewWord a t v (slice_index t.words (new_of t.moves o.place + i))

-- a settled object lies now at an index
pub record IsObjectAt (a : NamedHeap) (s : CopyState) (index : ℕ) : Type 0 where
  pub name : ℕ
  pub o : Object
  pub there : object_at a.objects name ≡ Some o
  pub settled : is_settled a s name ≡ true
  pub here : new_of s.moves o.place ≡ index

pub record CanScanObject (a : NamedHeap) (s : CopyState) (index : ℕ) : Type 0 where
  pub midway : Midway a s
  pub at : IsObjectAt a s index

-- the settled object that lay at an index is scanned, and noted if it is a weak pointer or a table
abbrev pub IsObjectScanned : NamedHeap → CopyState → CopyState → List ℕ → ℕ → Type 0
IsObjectScanned a s t listed index = (name : ℕ) (o : Object) → object_at a.objects name ≡ Some o → is_settled a s name ≡ true → new_of s.moves o.place ≡ index →
    IsDone a t listed o

-- how many fields stand behind a header: those of a vector, an instance or a closure; the sides of a table and what a weak
-- pointer points to are none
abbrev pub fields_behind : Kind → ℕ → ℕ
fields_behind kinds.Cons n = 0
fields_behind kinds.Vector n = n
fields_behind kinds.Instance n = n
fields_behind kinds.Closure n = n
fields_behind kinds.Words n = 0
fields_behind kinds.Weak n = 0
fields_behind kinds.Table n = 0

-- whether the objects of a kind are weak pointers or tables
abbrev pub is_weak_kind : Kind → Bool
is_weak_kind kinds.Cons = false
is_weak_kind kinds.Vector = false
is_weak_kind kinds.Instance = false
is_weak_kind kinds.Closure = false
is_weak_kind kinds.Words = false
is_weak_kind kinds.Weak = true
is_weak_kind kinds.Table = true

-- the first word of the object is a header: it alone is 1 modulo 4
pub record CanScanHeaded (a : NamedHeap) (s : CopyState) (index : ℕ) : Type 0 where
  pub midway : Midway a s
  pub at : IsObjectAt a s index
  pub header : slice_index s.words index % 4 ≡ 1

-- a copier has the same parts as before, and of its notes only the moves are others
pub record IsSameCopier (old new : Copier) : Type 0 where
  pub notes : SameButMoves old.notes.now new.notes.now
  pub same_space : new.space.ghost_name ≡ old.space.ghost_name
  pub same_pages : new.pages.ghost_name ≡ old.pages.ghost_name
  pub same_marks : new.marks.ghost_name ≡ old.marks.ghost_name
  pub same_notes : new.notes.ghost_name ≡ old.notes.ghost_name
