use Rattle.std.proofs.Common.{false, ap, ◌∙◌, arith}
use Rattle.atomic_table.specs.Seated.{TableId}
use Rattle.stop_words.proofs.SeatFacts.{Facts}
use Rattle.stop_words.proofs.Handing.{holder_hand, after_gather}
use Rattle.stop_words.proofs.seats.StopWords.gather.Goals as goal

pub take_all-parcels-requires-clause-hand : goal.take_all-parcels-requires-clause-hand
take_all-parcels-requires-clause-hand g c κs within =
    let old = c.args.seat.now in
    let seat = c.look_at_all.new.seat in
    let l = c.look_at_all.ensures.seat in
    let a = c.in_default.ensures.looked in
    let n = c.args.self.now.threads in
    let slots = ap (λ (z : TableId). z.slots) l.0 ∙ c.args.self.now.counts.1 in
    let first = ap (λ (z : TableId). z.slots) c.requires.seat ∙ c.args.self.now.counts.1 in
    let lt = old.in_range in
    holder_hand g.P.Owned.owner_of seat.seat.me old.thread n seat.seat.table_id.slots seat.out false seat.hand (a.looked.place ∙ c.requires.holder.0) (l.1 ∙ c.requires.none_out) slots (a.looked.thread ∙ old.number) (omega arith) seat.alone a.seen_all

pub invariant_of-seat : goal.invariant_of-seat
invariant_of-seat g c =
    let old = c.args.seat.now in
    let seat = c.look_at_all.new.seat in
    let l = c.look_at_all.ensures.seat in
    let a = c.in_default.ensures.looked in
    let n = c.args.self.now.threads in
    let slots = ap (λ (z : TableId). z.slots) l.0 ∙ c.args.self.now.counts.1 in
    let first = ap (λ (z : TableId). z.slots) c.requires.seat ∙ c.args.self.now.counts.1 in
    let lt = old.in_range in
    let t = c.take_all-parcels.ensures in
    let f : Facts g.P.Owned.owner_of seat.thread seat.out seat.seat.table_id.slots seat.seat.me = record { number = seat.number; in_range = seat.in_range; idle = seat.idle; alone = seat.alone; hand = seat.hand; gathered = seat.gathered } in
    let k = after_gather g.P.Owned.owner_of seat.seat.me c.take_all-parcels.new.seat.me old.thread n seat.thread seat.seat.table_id.slots c.take_all-parcels.new.seat.table_id.slots seat.out f (ap (λ (z : TableId). z.slots) t.seat.0) slots t.seat.1
    (a.looked.place ∙ c.requires.holder.0) (a.looked.thread ∙ old.number) (omega arith) a.seen_all t.hand in
    record { number = k.number; in_range = k.in_range; idle = k.idle; alone = k.alone; hand = k.hand; gathered = k.gathered }
