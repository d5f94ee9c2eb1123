use Rattle.std.proofs.Common.{rules, suc, ap, sym, ◌∙◌, add-one}
use Rattle.atomic_table.specs.Seated.{TableId}
use Rattle.stop_words.proofs.Moves.{claims}
use Rattle.stop_words.proofs.SeatFacts.{Facts, after_claim}
use Rattle.stop_words.proofs.seats.StopWords.claim.Goals as goal

pub compare_exchange-found-requires : goal.compare_exchange-found-requires
compare_exchange-found-requires g c =
    let seat = c.args.seat.now in let t = c.args.self.now in
    (c.requires.seat, search rules, claims g.P.Owned.owner_of t.table.shared.key t.table.shared.table_id.slots seat.seat.id _ seat.seat.me (add-one _ ∙ ap suc (sym seat.number)) c.requires.place)

pub invariant_of-seat : goal.invariant_of-seat
invariant_of-seat g c =
    let seat = c.args.seat.now in
    let now = c.compare_exchange-found.new.seat in
    let e = c.compare_exchange-found.ensures in
    let f : Facts g.P.Owned.owner_of seat.thread seat.out seat.seat.table_id.slots seat.seat.me = record { number = seat.number; in_range = seat.in_range; idle = seat.idle; alone = seat.alone; hand = seat.hand; gathered = seat.gathered } in
    let a = after_claim g.P.Owned.owner_of seat.thread seat.out seat.seat.table_id.slots now.table_id.slots (ap (λ (z : TableId). z.slots) e.0) seat.seat.me now.me f c.compare_exchange-found.result c.requires.place e.2.0 e.2.1 in
    record { number = a.number; in_range = a.in_range; idle = a.idle; alone = a.alone; hand = a.hand; gathered = a.gathered }
