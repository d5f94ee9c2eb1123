-- The runs of a schedule, as they are printed one after the other.
use Rattle.std.specs.Prelude.{◌≡◌, ◌≢◌, ℕ, ◌≤◌, ◌<◌, List, flat_map, length, slice_index, take, replicate}
use Rattle.heap_terms.specs.ScriptPrinting.{TurnRun, pieces_in, pieces_of, run_text}
use Rattle.heap_terms.specs.Text.{field}

-- the fields of some pieces
abbrev pub pieces_text : List TurnRun → List ℕ
pieces_text pieces = flat_map (λ (r : TurnRun). field (run_text r)) pieces

-- the fields of all turns
unfoldable pub runs_text : List ℕ → List ℕ
runs_text turns = pieces_text (pieces_in turns)

-- the fields of one run
abbrev pub run_pieces_text : ℕ → ℕ → List ℕ
run_pieces_text thread count = pieces_text (pieces_of (record { thread = thread; count = count }))

-- so many turns at the front are of the first turn's thread, and the next one, if there is one, is not
pub record IsRunAtFront (turns : List ℕ) (count : ℕ) : Type 0 where
  pub some : 0 < count
  pub within : count ≤ length turns
  pub same : take count turns ≡ replicate count (slice_index turns 0)
  pub ends : count < length turns → slice_index turns count ≢ slice_index turns 0
