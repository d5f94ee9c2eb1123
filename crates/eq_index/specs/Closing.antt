-- Words that close up.
use Rattle.std.specs.Prelude.{◌≡◌, ℕ, ◌+◌, ◌<◌, ◌≤◌, ◌⊎◌, List, length, slice_index}

-- each word from one index up to another is the one that was two behind it, and every other word is as it was
pub record ClosesUp (old : List ℕ) (from to : ℕ) (new : List ℕ) : Type 0 where
  pub long : length new ≡ length old
  pub moved : (i : ℕ) → from ≤ i → i < to → slice_index new i ≡ slice_index old (i + 2)
  pub others : (i : ℕ) → (i < from) ⊎ (to ≤ i) → slice_index new i ≡ slice_index old i
