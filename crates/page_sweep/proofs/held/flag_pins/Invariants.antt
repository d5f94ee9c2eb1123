use Rattle.std.proofs.Common.{◌≡◌, ℕ, length, take}
use Rattle.std.specs.Prelude.{if◌then◌else◌}
use Rattle.page_sweep.specs.Flags.{held_at, is_pinned_on}
use Rattle.page_sweep.proofs.held.flag_pins.Given as goal

abbrev pub invariant-loop-i : goal.invariant-loop-i
invariant-loop-i l = record {
  long : length l.held ≡ length l.fn.held;
  flagged : (page : ℕ) → held_at l.held page ≡ (if is_pinned_on (take l.i l.pins.listed) page then l.flag else held_at l.fn.held page);
}
