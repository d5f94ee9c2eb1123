-- The regions that are out for a thread, as they are opened again. This project's own.
use Rattle.std.specs.Prelude.{ℕ, ◌+◌, ◌*◌, List, Option, Some, None, option_map, option_and_then}
use Rattle.heap_terms.specs.declared.kinds.PageType.{PageType}
use Rattle.heap_terms.specs.declared.pages.Entry.{Entry}
use Rattle.heap_terms.specs.declared.pages.Entry.TheVariants.{Free, Used}
use Rattle.heap_terms.specs.Heap.{entry_at, fill_of}
use Rattle.heap_terms.specs.Layout.{page_words}
use Rattle.lisp_heap.specs.ParcelView.{LeaseView, lease_at}

-- the small region of a type on an open page, filled to where the page is
abbrev pub leases_on : List Entry → PageType → Option ℕ → Option LeaseView
leases_on pages ty page = option_map (λ p. lease_at ty p 1 (page_words * p + fill_of (entry_at pages p))) page

-- the run that begins at a page of an entry, in which nothing lies
abbrev pub lease_from : ℕ → Entry → Option LeaseView
lease_from first Free = None
lease_from first (Used ty g fill start k) = Some (lease_at ty first k (page_words * first))

-- an open run
abbrev pub leases_of : List Entry → Option ℕ → Option LeaseView
leases_of pages run = option_and_then (λ first. lease_from first (entry_at pages first)) run
