use Rattle.std.proofs.Common.{◌≡◌, ℕ, length, take}
use Rattle.std.specs.Prelude.{if◌then◌else◌}
use Rattle.page_sweep.specs.Flags.{held_at, is_stay_on}
use Rattle.page_sweep.proofs.held.flag_stays.Given as goal

abbrev pub invariant-loop-m : goal.invariant-loop-m
invariant-loop-m l = record {
  long : length l.held ≡ length l.fn.held;
  flagged : (page : ℕ) → held_at l.held page ≡ (if is_stay_on (take l.m-index l.moves) page then l.flag else held_at l.fn.held page);
}
