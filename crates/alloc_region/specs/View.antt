-- What contracts see of a region, and of the buffer in it.
use Rattle.std.specs.Prelude.{ℕ, ◌+◌, ◌*◌, ◌≤◌, List, [], length, min}
use Rattle.heap_terms.specs.declared.kinds.PageType.{PageType}
use Rattle.heap_terms.specs.declared.kinds.PageType.TheVariants as types
use Rattle.heap_terms.specs.declared.limits.TheConstants.{MOST_PAGES}
use Rattle.heap_terms.specs.Layout.{page_words}

-- the words that were built in a buffer, and how many it has room for
pub record BufferView : Type 0 where
  pub built : List ℕ
  pub room : ℕ

-- the type of a region's pages, the first of them and how many, the index at which its next object begins, and
-- the words of the object that is built and not yet accepted
pub record RegionView : Type 0 where
  pub ty : PageType
  pub first : ℕ
  pub pages : ℕ
  pub next : ℕ
  pub built : List ℕ

-- a region that was just opened
abbrev pub opened_region : PageType → ℕ → ℕ → RegionView
opened_region ty first pages = record { ty = ty; first = first; pages = pages; next = page_words * first; built = [] }

-- a region that is filled up to an index
abbrev pub reopened_region : PageType → ℕ → ℕ → ℕ → RegionView
reopened_region ty first pages next = record { ty = ty; first = first; pages = pages; next = next; built = [] }

-- the index after a region's last word
abbrev pub end_of : RegionView → ℕ
end_of r = page_words * (r.first + r.pages)

-- how many words the largest object has that a region of a type and a number of pages can hold: a cons, or
-- as many as the pages have, but no object has more than 65,536
abbrev pub largest_object : PageType → ℕ → ℕ
largest_object types.Cons pages = 2
largest_object types.Boxed pages = min (page_words * pages) 65536
largest_object types.Unboxed pages = min (page_words * pages) 65536

-- a region lies in a space, and what is accepted and built lies in the region
pub record IsSound (ty : PageType) (first pages next : ℕ) (buffer : BufferView) : Type 0 where
  pub least : 1 ≤ pages
  pub most : first + pages ≤ MOST_PAGES
  pub begun : page_words * first ≤ next
  pub ends : next + length buffer.built ≤ page_words * (first + pages)
  pub roomy : largest_object ty pages ≤ buffer.room
