use Rattle.std.proofs.Common.{ℕ, ◌+◌, ◌*◌, ◌<◌}
use Rattle.std.specs.Prelude.{◌≢◌, slice_index}
use Rattle.eq_index.proofs.tables.slot_read.Given as goal

abbrev pub invariant-loop-slot : goal.invariant-loop-slot
invariant-loop-slot l = (k : ℕ) → k < l.slot → slice_index l.space (l.table + 4 + 2 * k) ≢ l.key
