-- Where objects lie, and what pages say of themselves: an object lies below the fill of pages of its type and generation,
-- two share no word, and the pages of a run say the same of it. The layout is this project's own. Left free is which
-- page or run an object lies on.
use Rattle.std.specs.Prelude.{◌≡◌, ℕ, ◌+◌, ◌*◌, ◌/◌, ◌%◌, ◌<◌, ◌≤◌, ◌⊎◌, List, length, Option, Some, true, false}
use Rattle.heap_terms.specs.declared.limits.TheConstants.{OLDEST_GENERATION}
use Rattle.heap_terms.specs.declared.kinds.PageType.{PageType}
use Rattle.heap_terms.specs.declared.pages.Entry.{Entry}
use Rattle.heap_terms.specs.declared.pages.Entry.TheVariants.{Free, Used}
use Rattle.heap_terms.specs.Heap.{object_at, entry_at}
use Rattle.heap_terms.specs.Layout.{page_words, page_type_of}
use Rattle.heap_terms.specs.Objects.{Object, kind_of, words_of_object}
use Rattle.heap_terms.specs.Regions.{is_small, pages_needed}

-- the words of an object from its place on lie below the fill of a page of its own type that is no part of a longer run
abbrev pub IsOnPage : Object → Entry → Type 0
IsOnPage o Free = ⊥
IsOnPage o (Used ty g fill first pages) =
    (ty ≡ page_type_of (kind_of o.contents)) × (g ≡ o.generation) × (first ≡ o.place / page_words) × (pages ≡ 1)
    × (o.place % page_words + words_of_object o ≤ fill)

-- a page of the run of a large object, by its number in the run: it is full but for the last, which has the rest
abbrev pub IsPageOfRun : Object → ℕ → Entry → Type 0
IsPageOfRun o i Free = ⊥
IsPageOfRun o i (Used ty g fill first pages) =
    (ty ≡ page_type_of (kind_of o.contents)) × (g ≡ o.generation) × (first ≡ o.place / page_words)
    × (pages ≡ pages_needed (words_of_object o))
    × (i + 1 < pages → fill ≡ page_words) × (i + 1 ≡ pages → page_words * i + fill ≡ words_of_object o)

-- an object lies where it may: at an even index, a small one on one page, a large one alone in a run of its own
pub record IsPlaced (pages : List Entry) (o : Object) : Type 0 where
  pub even : o.place % 2 ≡ 0
  pub inside : o.place + words_of_object o ≤ page_words * length pages
  pub small : is_small (words_of_object o) ≡ true → IsOnPage o (entry_at pages (o.place / page_words))
  pub large_start : is_small (words_of_object o) ≡ false → o.place % page_words ≡ 0
  pub large : is_small (words_of_object o) ≡ false → (i : ℕ) → i < pages_needed (words_of_object o) →
      IsPageOfRun o i (entry_at pages (o.place / page_words + i))

-- two objects share no word
abbrev pub AreApart : Object → Object → Type 0
AreApart o q = (o.place + words_of_object o ≤ q.place) ⊎ (q.place + words_of_object q ≤ o.place)

-- the fill of a page is an even number of at most a page
pub record IsFill (fill : ℕ) : Type 0 where
  pub even : fill % 2 ≡ 0
  pub most : fill ≤ page_words

-- a page in use is of one of the seven generations, and filled by an even number of words, at most a page
abbrev pub IsEntry : Entry → Type 0
IsEntry Free = Unit {0}
IsEntry (Used ty g fill first pages) = (g ≤ OLDEST_GENERATION) × IsFill fill

-- a page is in use, and says of its type, its generation and its run what is said here
abbrev pub SaysOfRun : PageType → ℕ → ℕ → ℕ → Entry → Type 0
SaysOfRun ty g first k Free = ⊥
SaysOfRun ty g first k (Used other h fill start pages) = (other ≡ ty) × (h ≡ g) × (start ≡ first) × (pages ≡ k)

-- a page in use lies in its run, the run is inside the heap, and all its pages say the same
abbrev pub IsInRun : List Entry → ℕ → Entry → Type 0
IsInRun pages page Free = Unit {0}
IsInRun pages page (Used ty g fill first k) =
    (first ≤ page) × (page < first + k) × (first + k ≤ length pages)
    × ((i : ℕ) → i < k → SaysOfRun ty g first k (entry_at pages (first + i)))

-- a word of the space belongs to an object
pub record BelongsTo (index : ℕ) (o : Object) : Type 0 where
  pub from : o.place ≤ index
  pub below : index < o.place + words_of_object o

-- some object has the word of an index
abbrev pub IsOwned : List (Option Object) → ℕ → Type 0
IsOwned objects index = (name : ℕ) × (o : Object) × (object_at objects name ≡ Some o) × BelongsTo index o
