-- What the page table keeps beside allocation: runs of any generation, and the generation of a page.
-- That a collector has generations is SBCL's; the types of pages and all numbers are this project's own.
use Rattle.std.specs.Prelude.{◌≡◌, ℕ, ◌+◌, List, ◌++◌, take, drop, replicate, refl}
use Rattle.heap_terms.specs.declared.kinds.PageType.{PageType}
use Rattle.heap_terms.specs.declared.pages.Entry.{Entry}
use Rattle.heap_terms.specs.declared.pages.Entry.TheVariants as entries
use Rattle.heap_terms.specs.Regions.{with_run}

-- the pages after k of them, from `first` on, were taken as one empty run of a generation
abbrev pub with_run_of : List Entry → ℕ → ℕ → PageType → ℕ → List Entry
with_run_of pages first k ty generation =
    take first pages ++ replicate k (entries.Used ty generation 0 first k) ++ drop (first + k) pages

-- for generation 0 it is the run that allocation opens
pub with_run_of-zero : (pages : List Entry) (first k : ℕ) (ty : PageType) → with_run_of pages first k ty 0 ≡ with_run pages first k ty
with_run_of-zero pages first k ty = refl

-- the entry of a page with another generation; a free page stays free
abbrev pub with_generation : Entry → ℕ → Entry
with_generation entries.Free generation = entries.Free
with_generation (entries.Used ty old fill first pages) generation = entries.Used ty generation fill first pages

-- the first page of the run of a page in use; a free page has no run, and 0 stands for that
abbrev pub run_first_of : Entry → ℕ
run_first_of entries.Free = 0
run_first_of (entries.Used ty g fill first pages) = first
