use Rattle.std.proofs.Common.{◌≡◌, ◌+◌, ◌≤◌, ◌++◌, reverse, vec_len, vec_capacity}
use Rattle.stop_words.specs.ParcelSlots.{parcels_in}
use Rattle.stop_words.proofs.table.out_of_slots.Given as goal

abbrev pub invariant-loop-slot : goal.invariant-loop-slot
invariant-loop-slot g l = record {
  moves : parcels_in (reverse l.initial.slots.items) ≡ l.parcels.items ++ parcels_in (reverse l.slots.items);
  room : vec_len l.parcels + vec_len l.slots ≤ vec_capacity l.parcels;
}

abbrev pub decreases-loop-slot : goal.decreases-loop-slot
decreases-loop-slot g l = vec_len l.slots
