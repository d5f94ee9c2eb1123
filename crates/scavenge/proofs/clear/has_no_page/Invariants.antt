use Rattle.std.proofs.Common.{◌≡◌, ℕ, ◌<◌, false}
use Rattle.heap_terms.specs.Heap.{entry_at}
use Rattle.copy_space.specs.Pages.{is_page_of}
use Rattle.scavenge.proofs.clear.has_no_page.Given as goal

abbrev pub invariant-loop-page : goal.invariant-loop-page
invariant-loop-page l = (p : ℕ) → p < l.page → is_page_of (entry_at l.pages p) l.generation ≡ false
