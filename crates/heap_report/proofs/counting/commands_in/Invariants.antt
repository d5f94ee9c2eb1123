use Rattle.std.proofs.Common.{◌≡◌, length, take}
use Rattle.std.specs.Prelude.{sum_by}
use Rattle.heap_terms.specs.Summary.{capped}
use Rattle.heap_report.proofs.counting.commands_in.Given as goal

abbrev pub invariant-loop-commands : goal.invariant-loop-commands
invariant-loop-commands l = l.sum ≡ capped (sum_by length (take l.commands-index l.threads))
