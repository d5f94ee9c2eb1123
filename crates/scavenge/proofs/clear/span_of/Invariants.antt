use Rattle.std.proofs.Common.{◌≡◌, ℕ, ◌<◌, ◌≤◌, ◌⊎◌, length, false}
use Rattle.heap_terms.specs.Heap.{entry_at}
use Rattle.copy_space.specs.Pages.{is_page_of}
use Rattle.scavenge.proofs.clear.span_of.Given as goal

abbrev pub invariant-loop-page : goal.invariant-loop-page
invariant-loop-page l = record {
  least : l.first ≤ length l.pages;
  most : l.end ≤ l.page;
  within : (p : ℕ) → p < l.page → (p < l.first) ⊎ (l.end ≤ p) → is_page_of (entry_at l.pages p) l.generation ≡ false;
}
