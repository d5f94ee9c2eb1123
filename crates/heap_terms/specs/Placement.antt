-- Where the objects go that a pass moves, in a given order. That a pass copies is SBCL's; where it copies to, and that an
-- object which finds no place stays, is this project's own. The order is the collector's free choice; given it, nothing
-- else is left free.
use Rattle.std.specs.Prelude.{ℕ, ◌+◌, ◌-◌, ◌*◌, ◌/◌, ◌%◌, ◌&&◌, List, [], ◌∷◌, ◌++◌, length, take, drop, replicate, find, Option, Some, None, option_map, Bool, false, if◌then◌else◌, nat_le, slice_set}
use Rattle.std.specs.List.{list_all, range_with_len}
use Rattle.heap_terms.specs.declared.events.Placing.{Placing}
use Rattle.heap_terms.specs.declared.kinds.PageType.{PageType}
use Rattle.heap_terms.specs.declared.kinds.PageType.TheVariants as types
use Rattle.heap_terms.specs.declared.pages.Entry.{Entry}
use Rattle.heap_terms.specs.declared.pages.Entry.TheVariants as entries
use Rattle.heap_terms.specs.Heap.{NamedHeap, object_at, entry_at, fill_of}
use Rattle.heap_terms.specs.Layout.{page_words, page_type_of}
use Rattle.heap_terms.specs.Objects.{Object, kind_of, words_of_object}
use Rattle.heap_terms.specs.Regions.{is_free, is_small, pages_needed}

-- pages that a pass takes carry this generation, which no page has between passes, until its end
abbrev pub scratch : ℕ
scratch = 7

-- a placement so far: the pages, the page in use of each type, and the moves and stays in their order
pub record Placement : Type 0 where
  pub pages : List Entry
  pub cons_page : Option ℕ
  pub boxed_page : Option ℕ
  pub unboxed_page : Option ℕ
  pub moves : List Placing

-- before the first object no page is in use
abbrev pub no_placement : List Entry → Placement
no_placement pages = record { pages = pages; cons_page = None; boxed_page = None; unboxed_page = None; moves = [] }

-- the page in use of a type
abbrev pub page_in_use : Placement → PageType → Option ℕ
page_in_use s types.Cons = s.cons_page
page_in_use s types.Boxed = s.boxed_page
page_in_use s types.Unboxed = s.unboxed_page

-- the placement with that page in use
abbrev pub using_page : Placement → PageType → ℕ → Placement
using_page s types.Cons page = record s { cons_page = Some page }
using_page s types.Boxed page = record s { boxed_page = Some page }
using_page s types.Unboxed page = record s { unboxed_page = Some page }

-- whether k pages from `first` on are there and free
abbrev pub is_free_run : List Entry → ℕ → ℕ → Bool
is_free_run pages k first = nat_le (first + k) (length pages) && list_all is_free (take k (drop first pages))

-- the first page of the lowest run of k free pages
abbrev pub lowest_run : List Entry → ℕ → Option ℕ
lowest_run pages k = find (is_free_run pages k) (range_with_len 0 (length pages))

-- whether an object of a size fits on the page in use, after what is there
abbrev pub fits_on : List Entry → Option ℕ → ℕ → Bool
fits_on pages None size = false
fits_on pages (Some page) size = nat_le (fill_of (entry_at pages page) + size) page_words

-- the index at the fill of a page
abbrev pub end_of : List Entry → Option ℕ → Option ℕ
end_of pages None = None
end_of pages (Some page) = Some (page_words * page + fill_of (entry_at pages page))

-- The index at which an object of a type and a size goes: after what is on the page in use, where it is small and fits
-- there; else the start of the lowest run of pages that is long enough. None where there is no such run.
abbrev pub goes_to : Placement → PageType → ℕ → Option ℕ
goes_to s ty size =
    if is_small size && fits_on s.pages (page_in_use s ty) size
    then end_of s.pages (page_in_use s ty)
    else option_map (λ first. page_words * first) (lowest_run s.pages (pages_needed size))

-- the pages after a run of k from `first` on was taken for a large object: each is full but the last, which has the rest
abbrev pub taken_run : List Entry → PageType → ℕ → ℕ → ℕ → List Entry
taken_run pages ty first k size =
    take first pages ++ replicate (k - 1) (entries.Used ty scratch page_words first k)
    ++ entries.Used ty scratch (size - page_words * (k - 1)) first k ∷ drop (first + k) pages

-- the placement after an object of a type and a size went to an index, but for the list of moves: a small one fills its
-- page up to its end, and that page is in use from now on
abbrev pub filled : Placement → PageType → ℕ → Option ℕ → Placement
filled s ty size None = s
filled s ty size (Some index) =
    let page = index / page_words in
    if is_small size
    then using_page (record s { pages = slice_set s.pages page (entries.Used ty scratch (index % page_words + size) page 1) }) ty page
    else record s { pages = taken_run s.pages ty page (pages_needed size) size }

-- the placement with one more move; None is a stay
abbrev pub with_move : Placement → ℕ → ℕ → Option ℕ → Placement
with_move s name old new = record s { moves = s.moves ++ record { name = name; old = old; new = new } ∷ [] }

-- the placement after an object; a name that is gone changes nothing
abbrev pub place_object : Placement → ℕ → Option Object → Placement
place_object s name None = s
place_object s name (Some o) =
    let ty = page_type_of (kind_of o.contents) in
    let size = words_of_object o in
    let to = goes_to s ty size in
    with_move (filled s ty size to) name o.place to

-- the placement after the objects of a list of names, one after the other
abbrev pub placing_from : NamedHeap → Placement → List ℕ → Placement
placing_from a s [] = s
placing_from a s (name ∷ rest) = placing_from a (place_object s name (object_at a.objects name)) rest

-- the placement of a list of names in a heap
unfoldable pub placement : NamedHeap → List ℕ → Placement
placement a order = placing_from a (no_placement a.pages) order
