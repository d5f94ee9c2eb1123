use Rattle.std.proofs.Common.{vec_len}
use Rattle.lisp_heap.proofs.parcels.put_away_all.Given as goal

abbrev pub decreases-loop-parcel : goal.decreases-loop-parcel
decreases-loop-parcel l = vec_len l.parcels
