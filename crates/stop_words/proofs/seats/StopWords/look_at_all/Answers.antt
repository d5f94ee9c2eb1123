use Rattle.std.proofs.Common.{ap, arith}
use Rattle.atomic_table.specs.Seated.{TableId}
use Rattle.stop_words.proofs.seats.StopWords.look_at_all.Goals as goal

pub overflow_add-thread : goal.overflow_add-thread
overflow_add-thread g c =
    let seat = c.args.seat.now in
    let lt = seat.in_range in
    let same = ap (λ (z : TableId). z.slots) c.requires.seat in
    let k = c.args.self.now.counts.1 in
    omega arith
