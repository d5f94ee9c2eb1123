use Rattle.std.proofs.Common.{suc, ap, sym, ◌∙◌}
use Rattle.atomic_table.specs.Seated.{TableId}
use Rattle.stop_words.proofs.Moves.{leaves}
use Rattle.stop_words.proofs.SeatFacts.{Facts, word_below, after_leave}
use Rattle.stop_words.proofs.seats.StopWords.leave.Goals as goal

pub fetch_and-found-requires : goal.fetch_and-found-requires
fetch_and-found-requires g c =
    let seat = c.args.seat.now in let t = c.args.self.now in
    (c.requires.seat, word_below _ _ _ _ c.requires.seat seat.in_range t.counts.0 t.counts.1 c.word_index-word.ensures, leaves g.P.Owned.owner_of t.table.shared.key t.table.shared.table_id.slots seat.seat.id c.word_index-word.result seat.seat.me (c.word_index-word.ensures ∙ ap suc (sym seat.number)) c.requires.place)

pub invariant_of-seat : goal.invariant_of-seat
invariant_of-seat g c =
    let seat = c.args.seat.now in
    let now = c.fetch_and-found.new.seat in
    let e = c.fetch_and-found.ensures in
    let f : Facts g.P.Owned.owner_of seat.thread seat.out seat.seat.table_id.slots seat.seat.me = record { number = seat.number; in_range = seat.in_range; idle = seat.idle; alone = seat.alone; hand = seat.hand; gathered = seat.gathered } in
    let a = after_leave g.P.Owned.owner_of seat.thread seat.out seat.seat.table_id.slots now.table_id.slots (ap (λ (z : TableId). z.slots) e.0) seat.seat.me now.me f c.fetch_and-found.result c.requires.place e.2.0 e.2.1 in
    record { number = a.number; in_range = a.in_range; idle = a.idle; alone = a.alone; hand = a.hand; gathered = a.gathered }
