use Rattle.std.proofs.Common.{◌≡◌, take}
use Rattle.std.specs.Prelude.{fold}
use Rattle.heap_report.specs.Counting.{with_pass}
use Rattle.heap_report.proofs.counting.add_passes.Given as goal

abbrev pub invariant-loop-pass : goal.invariant-loop-pass
invariant-loop-pass l = l.totals ≡ fold with_pass l.fn.totals (take l.pass-index l.passes)
