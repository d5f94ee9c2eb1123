use Rattle.std.proofs.Common.{ℕ, ◌^◌, ◌<◌, ◌≤◌, ◌⊎◌}
use Rattle.std.specs.Prelude.{slice_index}
use Rattle.scavenge.proofs.clear.may_be_within.Given as goal

abbrev pub invariant-loop-word : goal.invariant-loop-word
invariant-loop-word l = l.found < 2 ^ 63 → (k : ℕ) → k < l.word-index → (slice_index l.words k < l.reach.from) ⊎ (l.reach.end ≤ slice_index l.words k)
