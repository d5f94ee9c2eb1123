-- Where objects were before the pass, told by its moves.
use Rattle.std.specs.Prelude.{◌≡◌, ◌≢◌, ℕ, ◌<◌, ◌≤◌, List, length, slice_index_or}
use Rattle.heap_terms.specs.Heap.{NamedHeap}
use Rattle.copy_space.specs.declared.notes.Move.{Move}
use Rattle.copy_space.specs.Midway.{IsPlacedSoFar}
use Rattle.copy_space.specs.State.{CopyState}

pub record CanTellPlace (a : NamedHeap) (s : CopyState) (start : ℕ) : Type 0 where
  pub places : IsPlacedSoFar a s
  pub inside : start < length s.words

abbrev pub no_move : Move
no_move = record { old = 0; new = 0 }

-- a move ends at an index
pub record IsMoveTo (moves : List Move) (to k : ℕ) : Type 0 where
  pub below : k < length moves
  pub ends : (slice_index_or moves k no_move).new ≡ to

-- none of some moves does
abbrev pub NoMoveTo : List Move → ℕ → ℕ → ℕ → Type 0
NoMoveTo moves to from end = (k : ℕ) → from ≤ k → k < end → (slice_index_or moves k no_move).new ≢ to
