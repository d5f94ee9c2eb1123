use Rattle.std.proofs.Common.{ℕ, ◌*◌, ◌<◌}
use Rattle.std.specs.Prelude.{◌≢◌, slice_index}
use Rattle.eq_index.proofs.tables.slot_in.Given as goal

abbrev pub invariant-loop-slot : goal.invariant-loop-slot
invariant-loop-slot l = (k : ℕ) → k < l.slot → slice_index l.words (2 * k) ≢ l.key
