-- What wiping one page needs and does.
use Rattle.std.specs.Prelude.{◌≡◌, ◌≢◌, ℕ, ◌+◌, ◌*◌, ◌/◌, ◌<◌, ◌≤◌, List, length, Some, Bool, true, false, slice_index}
use Rattle.heap_terms.specs.declared.kinds.Kind.{Kind}
use Rattle.heap_terms.specs.declared.kinds.Kind.TheVariants as kinds
use Rattle.heap_terms.specs.declared.kinds.PageType.{PageType}
use Rattle.heap_terms.specs.declared.limits.TheConstants.{MOST_ELEMENTS}
use Rattle.heap_terms.specs.declared.pages.Entry.TheVariants.{Used}
use Rattle.heap_terms.specs.Heap.{NamedHeap, object_at, entry_at}
use Rattle.heap_terms.specs.Layout.{page_words, filler_word, page_type_of, header_of, size_of}
use Rattle.heap_terms.specs.Objects.{Object, kind_of, payload_of, words_of_object}
use Rattle.heap_terms.specs.OnPages.{IsOwned}
use Rattle.copy_space.specs.declared.marks.Mark.{Mark}
use Rattle.copy_space.specs.declared.marks.Mark.TheVariants as marks
use Rattle.copy_space.specs.Midway.{IsPlacedSoFar}
use Rattle.copy_space.specs.Moved.{new_of}
use Rattle.copy_space.specs.Settled.{is_settled}
use Rattle.copy_space.specs.State.{CopyState}
use Rattle.page_sweep.specs.Swept.{remaining_now}

-- a heap before a pass, and the state at the end of tracing
pub record Tracing : Type 0 where
  pub heap : NamedHeap
  pub state : CopyState

-- each settled object but a cons begins with its header
abbrev pub AreHeaded : NamedHeap → CopyState → Type 0
AreHeaded a s = (name : ℕ) (o : Object) → object_at a.objects name ≡ Some o → is_settled a s name ≡ true → kind_of o.contents ≢ kinds.Cons →
    slice_index s.words (new_of s.moves o.place) ≡ header_of (kind_of o.contents) (payload_of o.contents)

-- whether a mark tells of an object that is settled and lies where it was
abbrev pub lies_there : Mark → Bool
lies_there marks.Fresh = false
lies_there marks.Pinned = true
lies_there marks.Stayed = true
lies_there marks.Moved = false

-- an object of a size begins at an index, and its kind is one of the page type; a header tells its size
pub record IsSizedAt (words : List ℕ) (index : ℕ) (ty : PageType) (size : ℕ) : Type 0 where
  pub kind : Kind
  pub n : ℕ
  pub typed : ty ≡ page_type_of kind
  pub most : n ≤ MOST_ELEMENTS
  pub headed : kind ≢ kinds.Cons → slice_index words index ≡ header_of kind n
  pub size_is : size ≡ size_of kind n

abbrev pub HasSize : List ℕ → ℕ → PageType → Type 0
HasSize words index ty = (size : ℕ) × IsSizedAt words index ty size

-- the words of each settled object are as they were at the end of tracing
pub record KeepsSettled (at : Tracing) (words : List ℕ) : Type 0 where
  pub long : length words ≡ length at.state.words
  pub kept : (name : ℕ) (o : Object) → object_at at.heap.objects name ≡ Some o → is_settled at.heap at.state name ≡ true → (i : ℕ) → i < words_of_object o →
      slice_index words (new_of at.state.moves o.place + i) ≡ slice_index at.state.words (new_of at.state.moves o.place + i)

-- a page can be wiped: it is of the pass's generation and no part of a longer run
pub record CanWipe (at : Tracing) (words : List ℕ) (page : ℕ) (ty : PageType) (fill : ℕ) : Type 0 where
  pub places : IsPlacedSoFar at.heap at.state
  pub headed : AreHeaded at.heap at.state
  pub keeps : KeepsSettled at words
  pub first : ℕ
  pub entry : entry_at at.state.pages page ≡ Used ty at.state.pass.generation fill first 1

-- words of a page below its fill that belong to nothing that remains are fillers
abbrev pub IsClean : Tracing → List ℕ → ℕ → ℕ → Type 0
IsClean at words page fill = (i : ℕ) → i < fill → ¬ IsOwned (remaining_now at.heap at.state) (page_words * page + i) →
    slice_index words (page_words * page + i) ≡ filler_word

-- the page is clean, and the words of settled objects and of other pages are as they were
pub record IsWiped (at : Tracing) (old new : List ℕ) (page fill : ℕ) : Type 0 where
  pub keeps : KeepsSettled at new
  pub others : (i : ℕ) → i / page_words ≢ page → slice_index new i ≡ slice_index old i
  pub clean : IsClean at new page fill
