use Rattle.std.proofs.Common.{true, ap, ◌∙◌, arith}
use Rattle.atomic_table.specs.Seated.{TableId}
use Rattle.stop_words.proofs.Handing.{holder_hand}
use Rattle.stop_words.proofs.Releasing.{after_release}
use Rattle.stop_words.proofs.seats.StopWords.release.Goals as goal

pub put_all-given-requires-clause-hand : goal.put_all-given-requires-clause-hand
put_all-given-requires-clause-hand g c κs within =
    let seat = c.args.seat.now in
    let n = c.args.self.now.threads in
    let slots = ap (λ (z : TableId). z.slots) c.requires.seat ∙ c.args.self.now.counts.1 in
    let lt = seat.in_range in
    holder_hand g.P.Owned.owner_of seat.seat.me seat.thread n seat.seat.table_id.slots seat.out true seat.hand c.requires.holder.0 c.requires.out slots seat.number (omega arith) seat.alone c.requires.holder.1

pub invariant_of-seat : goal.invariant_of-seat
invariant_of-seat g c =
    let seat = c.args.seat.now in
    let n = c.args.self.now.threads in
    let p = c.put_all-given.ensures in
    let now = c.put_all-given.new.seat in
    let lt = seat.in_range in
    let same = ap (λ (z : TableId). z.slots) p.table in
    let k = after_release g.P.Owned.owner_of seat.thread seat.seat.table_id.slots now.table_id.slots n now.me seat.seat.me.0 (omega arith) seat.number p.steps p.hand in
    record { number = k.number; in_range = k.in_range; idle = k.idle; alone = k.alone; hand = k.hand; gathered = k.gathered }
