use Rattle.std.proofs.Common.{◌≡◌, ℕ, ◌*◌, length, take, nat_eq}
use Rattle.std.specs.List.{list_any}
use Rattle.std.specs.Prelude.{if◌then◌else◌}
use Rattle.copy_space.specs.Marks.{mark_at}
use Rattle.copy_space.proofs.marks.mark_starts.Given as goal

abbrev pub invariant-loop-i : goal.invariant-loop-i
invariant-loop-i l = record {
  long : length l.marks ≡ length l.fn.marks;
  marked : (j : ℕ) → mark_at l.marks (2 * j) ≡ (if list_any (nat_eq (2 * j)) (take l.i l.starts.listed) then l.mark else mark_at l.fn.marks (2 * j));
}
