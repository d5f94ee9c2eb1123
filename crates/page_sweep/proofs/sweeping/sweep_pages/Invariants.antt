use Rattle.std.proofs.Common.{◌≡◌, vec_capacity}
use Rattle.page_sweep.proofs.Progress.{IsSweptUpTo}
use Rattle.page_sweep.proofs.sweeping.sweep_pages.Given as goal

abbrev pub ghost-sweep_page : goal.ghost-sweep_page
ghost-sweep_page g a = g.at

abbrev pub invariant-loop-page : goal.invariant-loop-page
invariant-loop-page g l = record {
  swept : IsSweptUpTo g.at l.traced.target l.space l.pages l.freed.items l.page;
  capacity : vec_capacity l.freed ≡ vec_capacity l.fn.freed;
}
