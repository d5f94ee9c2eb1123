use Rattle.std.proofs.Common.{suc, ap, sym, ◌∙◌}
use Rattle.stop_words.proofs.Moves.{enters}
use Rattle.stop_words.proofs.SeatFacts.{word_below}
use Rattle.stop_words.proofs.seats.StopWords.enter.Goals as goal

pub compare_exchange-found-requires : goal.compare_exchange-found-requires
compare_exchange-found-requires g c =
    let seat = c.args.seat.now in let t = c.args.self.now in
    (c.requires.seat, word_below _ _ _ _ c.requires.seat seat.in_range t.counts.0 t.counts.1 c.word_index-word.ensures, enters g.P.Owned.owner_of t.table.shared.key t.table.shared.table_id.slots seat.seat.id c.word_index-word.result seat.seat.me (c.word_index-word.ensures ∙ ap suc (sym seat.number)) c.requires.place)
