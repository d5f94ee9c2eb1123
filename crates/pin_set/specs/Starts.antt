-- What a contract sees of a set of starts.
use Rattle.std.specs.Prelude.{ℕ, List}

-- the starts in the order in which they were first put in, and how many of them take no memory
pub record Starts : Type 0 where
  pub listed : List ℕ
  pub most : ℕ
