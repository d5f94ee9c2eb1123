use Rattle.std.proofs.Common.{inl, inr, arith}
use Rattle.std.proofs.lemmas.Bool.{cases_lt}
use Rattle.heap_terms.specs.Heap.{entry_at}
use Rattle.scavenge.proofs.UsedPages.{free-other}
use Rattle.scavenge.proofs.clear.has_no_page.Goals as goal

pub returns : goal.returns
returns c = λ _ p. elim (cases_lt p c.loop-page.page) [
  | inl below ↦ c.loop-page.invariant p below
  | inr above ↦ free-other (entry_at c.args.pages.now p) c.args.generation (c.used_end-page-end.ensures.free p (omega (arith, above, c.loop-page-test.false)))
]
