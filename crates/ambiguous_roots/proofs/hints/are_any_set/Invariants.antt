use Rattle.std.proofs.Common.{◌≡◌, ℕ, ◌<◌, false}
use Rattle.ambiguous_roots.specs.Hinted.{hint_of}
use Rattle.ambiguous_roots.proofs.hints.are_any_set.Given as goal

abbrev pub invariant-loop-flag : goal.invariant-loop-flag
invariant-loop-flag l = l.any ≡ false → (k : ℕ) → k < l.flag-index → hint_of l.flags k ≡ false
