-- What `page` shows of a page: what lies below its fill, by index, as objects and as the gaps between them. The view
-- is this project's own. Nothing is left free: each object that begins on the page is one item, and each maximal run
-- of its words that belong to no object is one.
use Rattle.std.specs.Prelude.{ℕ, ◌+◌, ◌-◌, ◌*◌, ◌==◌, ◌&&◌, ◌||◌, not, List, [], ◌∷◌, length, take_while, flat_map, find, Option, Some, None, Bool, false, is_none, if◌then◌else◌, nat_le, nat_lt}
use Rattle.std.specs.List.{range_with_len}
use Rattle.heap_terms.specs.declared.answers.Item.{Item}
use Rattle.heap_terms.specs.declared.answers.PageView.{PageView}
use Rattle.heap_terms.specs.declared.answers.PageView.TheVariants as views
use Rattle.heap_terms.specs.declared.kinds.PageType.{PageType}
use Rattle.heap_terms.specs.declared.pages.Entry.{Entry}
use Rattle.heap_terms.specs.declared.pages.Entry.TheVariants as entries
use Rattle.heap_terms.specs.Generations.{names}
use Rattle.heap_terms.specs.Heap.{NamedHeap, object_at, entry_at}
use Rattle.heap_terms.specs.Layout.{page_words}
use Rattle.heap_terms.specs.Objects.{Object, words_of_object}

-- whether an object begins at an index
abbrev pub begins_at : ℕ → Option Object → Bool
begins_at index None = false
begins_at index (Some o) = o.place == index

-- whether the word at an index belongs to an object
abbrev pub has_word : ℕ → Option Object → Bool
has_word index None = false
has_word index (Some o) = nat_le o.place index && nat_lt index (o.place + words_of_object o)

-- the name of the object that begins at an index
abbrev pub begun_at : NamedHeap → ℕ → Option ℕ
begun_at a index = find (λ name. begins_at index (object_at a.objects name)) (names a)

-- whether the word at an index belongs to no object
abbrev pub is_gap : NamedHeap → ℕ → Bool
is_gap a index = is_none (find (λ name. has_word index (object_at a.objects name)) (names a))

-- the words from an index on and below an end that belong to no object, up to the first that belongs to one
abbrev pub gap_from : NamedHeap → ℕ → ℕ → List ℕ
gap_from a index end = take_while (is_gap a) (range_with_len index (end - index))

-- a gap begins at an index where its word belongs to no object, and the one before it belongs to one or is on another page
abbrev pub gap_begins : NamedHeap → ℕ → ℕ → Bool
gap_begins a start index = is_gap a index && (index == start || not (is_gap a (index - 1)))

-- the item that begins at an index of a page's words from `start` up to `end`, if there is one
abbrev pub item_from : NamedHeap → ℕ → ℕ → ℕ → Option ℕ → List Item
item_from a start end index (Some name) = record { name = Some name; index = index; count = 0 } ∷ []
item_from a start end index None =
    if gap_begins a start index then record { name = None; index = index; count = length (gap_from a index end) } ∷ [] else []

-- the items of the words from `start` on, so many of them
abbrev pub items_of : NamedHeap → ℕ → ℕ → List Item
items_of a start fill =
    flat_map (λ index. item_from a start (start + fill) index (begun_at a index)) (range_with_len start fill)

-- a page of a longer run: the object that begins at the run's start, or none while the run is open
abbrev pub run_view : PageType → ℕ → ℕ → ℕ → Option ℕ → PageView
run_view ty g pages index (Some name) = views.Large ty g pages name index
run_view ty g pages index None = views.Small ty g 0 []

-- a page by its number and its entry
abbrev pub entry_view : NamedHeap → ℕ → Entry → PageView
entry_view a page entries.Free = views.Free
entry_view a page (entries.Used ty g fill first pages) =
    if pages == 1 then views.Small ty g fill (items_of a (page_words * page) fill)
    else run_view ty g pages (page_words * first) (begun_at a (page_words * first))

abbrev pub page_view : NamedHeap → ℕ → PageView
page_view a page = entry_view a page (entry_at a.pages page)
