use Rattle.std.proofs.Common.{◌≡◌, ℕ, ◌<◌, ◌≤◌, true}
use Rattle.heap_terms.specs.Heap.{entry_at}
use Rattle.heap_terms.specs.Regions.{is_free}
use Rattle.page_table.specs.Unpacked.{unpacked_all}
use Rattle.page_table.proofs.table.used_below.Given as goal

abbrev pub invariant-loop-below : goal.invariant-loop-below
invariant-loop-below l = record {
  most : l.below ≤ l.end;
  free : (p : ℕ) → l.below ≤ p → p < l.end → is_free (entry_at (unpacked_all l.entries) p) ≡ true;
}

abbrev pub decreases-loop-below : goal.decreases-loop-below
decreases-loop-below l = l.below
