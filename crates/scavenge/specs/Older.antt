-- The pages of other generations than the one that a pass collects, and how far a walk over one of them has come.
use Rattle.std.specs.Prelude.{◌≡◌, ℕ, ◌+◌, ◌*◌, ◌%◌, ◌<◌, ◌≤◌, ◌==◌, ◌&&◌, not, List, length, Some, Bool, true, false, if◌then◌else◌}
use Rattle.heap_terms.specs.declared.kinds.Kind.{Kind}
use Rattle.heap_terms.specs.declared.kinds.PageType.{PageType}
use Rattle.heap_terms.specs.declared.kinds.PageType.TheVariants as types
use Rattle.heap_terms.specs.declared.limits.TheConstants.{MOST_ELEMENTS}
use Rattle.heap_terms.specs.declared.pages.Entry.{Entry}
use Rattle.heap_terms.specs.declared.pages.Entry.TheVariants.{Free, Used}
use Rattle.heap_terms.specs.Heap.{NamedHeap, object_at, entry_at, fill_of}
use Rattle.heap_terms.specs.Layout.{page_words}
use Rattle.heap_terms.specs.Objects.{Object, words_of_object}
use Rattle.heap_terms.specs.Placement.{scratch}
use Rattle.lisp_words.specs.Tagged.{IsHeader}
use Rattle.copy_space.specs.Midway.{Midway}
use Rattle.copy_space.specs.Pages.{is_page_of}
use Rattle.copy_space.specs.State.{CopyState}
use Rattle.scavenge.specs.Noting.{IsDone}

-- whether the objects on pages of a type may have fields
abbrev pub may_have_fields : PageType → Bool
may_have_fields types.Cons = true
may_have_fields types.Boxed = true
may_have_fields types.Unboxed = false

-- Whether older roots may begin on a page, in a pass over generation g: the page is in use, it is of another generation
-- and was not taken in this pass, its objects may have fields, and it is the first of its run.
abbrev pub has_roots : Entry → ℕ → ℕ → Bool
has_roots Free page g = false
has_roots (Used ty k fill first n) page g = not (k == g) && not (k == scratch) && may_have_fields ty && (first == page)

-- below how many words of a page they begin
abbrev pub root_words : Entry → ℕ → ℕ → ℕ
root_words e page g = if has_roots e page g then fill_of e else 0

-- a word that is a header is one of at most 65,535 words of payload
abbrev pub IsSized : ℕ → Type 0
IsSized word = (kind : Kind) (n : ℕ) → IsHeader word kind n → n ≤ MOST_ELEMENTS

-- A piece of the heap before the pass ends at an index: the index is even, and each object that begins below it ends at
-- or below it.
pub record IsEdge (a : NamedHeap) (index : ℕ) : Type 0 where
  pub even : index % 2 ≡ 0
  pub before : (name : ℕ) (o : Object) → object_at a.objects name ≡ Some o → o.place < index → o.place + words_of_object o ≤ index

-- such an index lies below the fill of a page of another generation
pub record CanScanPiece (a : NamedHeap) (s : CopyState) (index : ℕ) : Type 0 where
  pub midway : Midway a s
  pub edge : IsEdge a index
  pub page : ℕ
  pub from : page_words * page ≤ index
  pub below : index < page_words * page + fill_of (entry_at a.pages page)
  pub other : is_page_of (entry_at a.pages page) s.pass.generation ≡ false

-- each object that begins from an index on and below another one is scanned, and noted if it is a weak pointer or a table
abbrev pub AreObjectsScanned : NamedHeap → CopyState → List ℕ → ℕ → ℕ → Type 0
AreObjectsScanned a s listed from end = (name : ℕ) (o : Object) → object_at a.objects name ≡ Some o → from ≤ o.place → o.place < end → IsDone a s listed o

-- the piece from an index on up to the next is scanned
pub record IsPieceScanned (a : NamedHeap) (s : CopyState) (listed : List ℕ) (index next : ℕ) : Type 0 where
  pub edge : IsEdge a next
  pub more : index < next
  pub scanned : AreObjectsScanned a s listed index next

-- older roots may begin below so many words of a page, and nowhere else on it
pub record CanScanPage (a : NamedHeap) (s : CopyState) (page words : ℕ) : Type 0 where
  pub midway : Midway a s
  pub inside : page < length a.pages
  pub words_are : words ≡ root_words (entry_at a.pages page) page s.pass.generation
