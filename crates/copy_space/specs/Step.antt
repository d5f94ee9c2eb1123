-- One step of a placement on a page table: the index that an object gets and what that changes, as `heap_terms` says.
use Rattle.std.specs.Prelude.{◌≡◌, ℕ, ◌%◌, ◌≤◌, List, length, Option, Some}
use Rattle.heap_terms.specs.declared.kinds.PageType.{PageType}
use Rattle.heap_terms.specs.declared.limits.TheConstants.{MOST_PAGES}
use Rattle.heap_terms.specs.declared.pages.Entry.{Entry}
use Rattle.heap_terms.specs.declared.pages.Entry.TheVariants.{Used}
use Rattle.heap_terms.specs.Heap.{entry_at}
use Rattle.heap_terms.specs.OnPages.{IsFill}
use Rattle.heap_terms.specs.Placement.{scratch, page_in_use, goes_to, filled}
use Rattle.copy_space.specs.declared.placing.PagesInUse.{PagesInUse}
use Rattle.copy_space.specs.State.{placing_on}

-- the pages in use were taken in this pass, each by itself
abbrev pub AreTakenPages : List Entry → PagesInUse → Type 0
AreTakenPages pages in_use = (ty : PageType) (page : ℕ) → page_in_use (placing_on pages in_use) ty ≡ Some page →
    (fill : ℕ) × (entry_at pages page ≡ Used ty scratch fill page 1) × IsFill fill

-- an object can be placed: the pages in use are such pages, and the size is one that an object has
pub record CanPlace (pages : List Entry) (in_use : PagesInUse) (size : ℕ) : Type 0 where
  pub taken : AreTakenPages pages in_use
  pub most : length pages ≤ MOST_PAGES
  pub least : 2 ≤ size
  pub even : size % 2 ≡ 0
  pub bound : size ≤ 65536

-- the object went to this index, or found none, and the pages are those after it
pub record IsStep (pages : List Entry) (in_use : PagesInUse) (ty : PageType) (size : ℕ) (to : Option ℕ) (new : List Entry) (using_now : PagesInUse) : Type 0 where
  pub goes : to ≡ goes_to (placing_on pages in_use) ty size
  pub filled_is : placing_on new using_now ≡ filled (placing_on pages in_use) ty size to
