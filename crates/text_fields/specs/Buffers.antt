-- A text that is being made.
use Rattle.std.specs.Prelude.{ℕ, List}

-- the bytes so far, and how many more can be appended without taking memory
pub record TextView : Type 0 where
  pub text : List ℕ
  pub room : ℕ
