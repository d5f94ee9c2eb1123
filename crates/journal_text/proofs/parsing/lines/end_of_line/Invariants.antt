use Rattle.std.proofs.Common.{◌≡◌, ℕ, ◌<◌, ◌≤◌, length, get_or, ◌-◌}
use Rattle.journal_text.proofs.parsing.lines.end_of_line.Given as goal

abbrev pub invariant-loop-len : goal.invariant-loop-len
invariant-loop-len l = record {
  within : l.len ≤ length l.bytes;
  before : (k : ℕ) → k < l.len → get_or l.bytes k 0 ≡ 10 → ⊥;
}

abbrev pub decreases-loop-len : goal.decreases-loop-len
decreases-loop-len l = length l.bytes - l.len
