use Rattle.std.proofs.Common.{ap, ◌∙◌}
use Rattle.std.specs.Prelude.{fold}
use Rattle.heap_report.specs.Counting.{with_pass, with_passes}
use Rattle.heap_report.proofs.Sums.{taken_all}
use Rattle.heap_report.proofs.counting.add_passes.Goals as goal

pub returns : goal.returns
unfolding with_passes
returns c = c.loop-pass.invariant ∙ ap (fold with_pass c.args.totals.now) (taken_all c.args.passes.now c.loop-pass.pass-index c.loop-pass-test.false c.loop-pass.auto.pass-index-end)
