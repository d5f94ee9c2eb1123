use Rattle.std.proofs.Common.{◌-◌}
use Rattle.page_sweep.proofs.Wiped.{IsWipedUpTo}
use Rattle.page_sweep.proofs.wiping.wipe.Given as goal

abbrev pub invariant-loop-index : goal.invariant-loop-index
invariant-loop-index g l = IsWipedUpTo g.at l.fn.space l.space l.page l.index

abbrev pub decreases-loop-index : goal.decreases-loop-index
decreases-loop-index g l = l.end - l.index
