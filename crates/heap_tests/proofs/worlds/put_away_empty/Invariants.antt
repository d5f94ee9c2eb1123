-- Each parcel that is put away is one less.
use Rattle.std.proofs.Common.{vec_len}
use Rattle.heap_tests.proofs.worlds.put_away_empty.Given as goal

abbrev pub decreases-loop-parcel : goal.decreases-loop-parcel
decreases-loop-parcel g l = vec_len l.parcels
