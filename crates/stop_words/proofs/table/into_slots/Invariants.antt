use Rattle.std.proofs.Common.{◌≡◌, ◌+◌, ◌≤◌, ◌++◌, map, reverse, vec_len, vec_capacity, Some}
use Rattle.stop_words.proofs.table.into_slots.Given as goal

abbrev pub invariant-loop-parcel : goal.invariant-loop-parcel
invariant-loop-parcel g l = record {
  moves : map Some (reverse l.initial.parcels.items) ≡ l.slots.items ++ map Some (reverse l.parcels.items);
  room : vec_len l.slots + vec_len l.parcels ≤ vec_capacity l.slots;
  kept : vec_capacity l.parcels ≡ vec_capacity l.initial.parcels;
}

abbrev pub decreases-loop-parcel : goal.decreases-loop-parcel
decreases-loop-parcel g l = vec_len l.parcels
