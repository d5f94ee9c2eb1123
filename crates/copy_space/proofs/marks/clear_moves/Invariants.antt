use Rattle.std.proofs.Common.{◌≡◌, ℕ, ◌*◌, length, take}
use Rattle.std.specs.Prelude.{if◌then◌else◌}
use Rattle.copy_space.specs.declared.marks.Mark.TheVariants.{Fresh}
use Rattle.copy_space.specs.Marks.{mark_at}
use Rattle.copy_space.specs.Moved.{has_move}
use Rattle.copy_space.proofs.marks.clear_moves.Given as goal

abbrev pub invariant-loop-m : goal.invariant-loop-m
invariant-loop-m l = record {
  long : length l.marks ≡ length l.fn.marks;
  marked : (j : ℕ) → mark_at l.marks (2 * j) ≡ (if has_move (take l.m-index l.moves) (2 * j) then Fresh else mark_at l.fn.marks (2 * j));
}
