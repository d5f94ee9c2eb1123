use Rattle.std.proofs.Common.{◌≤◌, ◌-◌, arith}
use Rattle.page_table.proofs.UsedEnd.{free-more}
use Rattle.page_table.specs.Unpacked.{unpacked_all}
use Rattle.page_table.proofs.RunSearch.{free-unpacked}
use Rattle.page_table.proofs.table.used_below.Goals as goal

pub loop-below-preserved : goal.loop-below-preserved
loop-below-preserved c =
    let low : 1 ≤ c.loop-below.below = c.loop-below-test.true in
    let most : c.loop-below.below ≤ c.args.end = c.loop-below.invariant.most in
    record {
      most = omega arith;
      free = free-more (unpacked_all c.args.entries.now) c.args.end c.loop-below.below (c.loop-below.below - 1) c.loop-below.invariant.free (omega arith)
          (free-unpacked c.args.entries.now (c.loop-below.below - 1) _ _ _ (omega (arith, c.requires)) c.is_free.ensures c.if-not-is_free.false);
    }
