-- How the words of a page are laid out: from its first word on, up to its fill, objects and pairs of filler words, one
-- after another. What begins at an index is told by its word alone: a filler, a header, or a value, with which a cons
-- begins. That a page is walked by its words is SBCL's; the words are this project's own. Left free is what stands in
-- an object behind its first word, which lengths of payload a kind has, and what stands behind the fill.
use Rattle.std.specs.Prelude.{◌≡◌, ◌≢◌, ℕ, ◌+◌, ◌*◌, ◌/◌, ◌%◌, ◌<◌, ◌≤◌, ◌==◌, List, [], ◌∷◌, All, AllPairs, Contains, Some, if◌then◌else◌, slice_index}
use Rattle.heap_terms.specs.declared.kinds.Kind.{Kind}
use Rattle.heap_terms.specs.declared.kinds.Kind.TheVariants as kinds
use Rattle.heap_terms.specs.declared.limits.TheConstants.{MOST_ELEMENTS}
use Rattle.heap_terms.specs.declared.pages.Entry.{Entry}
use Rattle.heap_terms.specs.declared.pages.Entry.TheVariants.{Free, Used}
use Rattle.heap_terms.specs.Heap.{NamedHeap, object_at, entry_at}
use Rattle.heap_terms.specs.Layout.{page_words, filler_word, header_of, size_of}
use Rattle.heap_terms.specs.Objects.{Object, kind_of, payload_of}

-- a piece of a page: two filler words, or an object of a kind with n words of payload
pub data Piece : Type 0 where
  Fillers : Piece
  Whole : Kind → ℕ → Piece

-- how many words it takes
abbrev pub words_of_piece : Piece → ℕ
words_of_piece Fillers = 2
words_of_piece (Whole kind n) = size_of kind n

-- a word is the header of a kind with n words of payload
abbrev pub IsHeaderOf : ℕ → Kind → ℕ → Type 0
IsHeaderOf word kind n = (word ≡ header_of kind n) × (n ≤ MOST_ELEMENTS)

-- An object of a kind with n words of payload can begin with a word: its header, or for a cons a value. Headers and the
-- filler are 1 modulo 4, and no value of a cons is: fixnums are even, NIL and references are 3 modulo 4.
abbrev pub BeginsWith : Kind → ℕ → ℕ → Type 0
BeginsWith kinds.Cons n word = (n ≡ 2) × (word % 4 ≢ 1)
BeginsWith kinds.Vector n word = IsHeaderOf word kinds.Vector n
BeginsWith kinds.Instance n word = IsHeaderOf word kinds.Instance n
BeginsWith kinds.Closure n word = IsHeaderOf word kinds.Closure n
BeginsWith kinds.Words n word = IsHeaderOf word kinds.Words n
BeginsWith kinds.Weak n word = IsHeaderOf word kinds.Weak n
BeginsWith kinds.Table n word = IsHeaderOf word kinds.Table n

-- a piece begins at an index
abbrev pub IsPieceAt : List ℕ → ℕ → Piece → Type 0
IsPieceAt words index Fillers = (slice_index words index ≡ filler_word) × (slice_index words (index + 1) ≡ filler_word)
IsPieceAt words index (Whole kind n) = BeginsWith kind n (slice_index words index)

-- From an index on the words are these pieces, one after another. Each begins below `end`, and the last reaches it: only
-- a large object, which begins on its run's first page, reaches past it.
abbrev pub AreLaidOut : List ℕ → ℕ → ℕ → List Piece → Type 0
AreLaidOut words from end [] = end ≤ from
AreLaidOut words from end (piece ∷ pieces) =
    (from < end) × IsPieceAt words from piece × AreLaidOut words (from + words_of_piece piece) end pieces

-- how many words of a page hold pieces that begin on it: those below its fill; on a later page of a run none, since that
-- page has words of the object that begins on the run's first page
abbrev pub laid_words : ℕ → Entry → ℕ
laid_words page Free = 0
laid_words page (Used ty g fill first k) = if first == page then fill else 0

-- these are the pieces that begin on a page
pub record AreOnPage (words : List ℕ) (pages : List Entry) (page : ℕ) (pieces : List Piece) : Type 0 where
  pub most : laid_words page (entry_at pages page) ≤ page_words
  pub laid : AreLaidOut words (page_words * page) (page_words * page + laid_words page (entry_at pages page)) pieces

-- the words of a page can be walked: they are laid out in some pieces (the words say in which)
pub record IsLaidOut (words : List ℕ) (pages : List Entry) (page : ℕ) : Type 0 where
  pub pieces : List Piece
  pub on_page : AreOnPage words pages page pieces

-- where an object begins, its kind, and how many words of payload it has
pub record ObjectStart : Type 0 where
  pub index : ℕ
  pub kind : Kind
  pub n : ℕ

-- the objects among pieces from an index on, in order, with the fillers passed over
abbrev pub object_starts : ℕ → List Piece → List ObjectStart
object_starts from [] = []
object_starts from (Fillers ∷ pieces) = object_starts (from + 2) pieces
object_starts from (Whole kind n ∷ pieces) = record { index = from; kind = kind; n = n } ∷ object_starts (from + size_of kind n) pieces

-- these are the objects that begin on a page, in order
pub record AreObjectsOn (words : List ℕ) (pages : List Entry) (page : ℕ) (starts : List ObjectStart) : Type 0 where
  pub pieces : List Piece
  pub on_page : AreOnPage words pages page pieces
  pub starts_are : starts ≡ object_starts (page_words * page) pieces

-- by the words an object of a kind with n words of payload begins at an index
pub record StartsAt (words : List ℕ) (pages : List Entry) (start : ObjectStart) : Type 0 where
  pub starts : List ObjectStart
  pub objects : AreObjectsOn words pages (start.index / page_words) starts
  pub among : Contains starts start

-- where an object of a heap begins
abbrev pub start_of : Object → ObjectStart
start_of o = record { index = o.place; kind = kind_of o.contents; n = payload_of o.contents }

-- some object of the heap begins there
abbrev pub HasObject : NamedHeap → ObjectStart → Type 0
HasObject a start = (name : ℕ) × (o : Object) × (object_at a.objects name ≡ Some o) × (start ≡ start_of o)

-- these are all objects of a heap that begin from an index on and below an end, in order and each once
pub record AreHeapsObjects (a : NamedHeap) (from end : ℕ) (starts : List ObjectStart) : Type 0 where
  pub each : All (λ (s : ObjectStart). HasObject a s × (from ≤ s.index) × (s.index < end)) starts
  pub all : (name : ℕ) (o : Object) → object_at a.objects name ≡ Some o → from ≤ o.place → o.place < end → Contains starts (start_of o)
  pub ascending : AllPairs (λ (s t : ObjectStart). s.index < t.index) starts
