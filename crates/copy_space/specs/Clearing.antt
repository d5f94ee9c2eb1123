-- Marks that can be cleared by the pins and the moves of a pass.
use Rattle.std.specs.Prelude.{◌≡◌, ℕ, ◌*◌, ◌/◌, ◌%◌, ◌<◌, List, length, All}
use Rattle.copy_space.specs.declared.marks.Mark.{Mark}
use Rattle.copy_space.specs.declared.notes.Move.{Move}
use Rattle.copy_space.specs.Marks.{mark_at}
use Rattle.copy_space.specs.Moved.{mark_for}

-- an index begins one of n double words
pub record IsDoubleWord (n index : ℕ) : Type 0 where
  pub even : index % 2 ≡ 0
  pub inside : index / 2 < n

-- the marks are those of these pins and moves
pub record AreMarks (marks : List Mark) (pins : List ℕ) (moves : List Move) : Type 0 where
  pub pins_inside : All (IsDoubleWord (length marks)) pins
  pub moves_inside : All (λ (m : Move). IsDoubleWord (length marks) m.old) moves
  pub marks_are : (i : ℕ) → mark_at marks (2 * i) ≡ mark_for pins moves (2 * i)
