use Rattle.std.proofs.Common.{[], ◌∷◌, Some, suc, ap, sym, ◌∙◌, arith}
use Rattle.stop_words.proofs.Moves.{resumes}
use Rattle.stop_words.proofs.SeatFacts.{head_of}
use Rattle.stop_words.proofs.seats.StopWords.come_back.Goals as goal

pub compare_exchange-found-requires : goal.compare_exchange-found-requires
compare_exchange-found-requires g c =
    let seat = c.args.seat.now in let t = c.args.self.now in
    let o = c.requires.number in
    let k = t.counts in
    (c.requires.table, omega arith, resumes g.P.Owned.owner_of t.table.shared.key t.table.shared.table_id.slots seat.id c.word_index-word.result seat.me (c.word_index-word.ensures ∙ ap suc (sym o.0)) c.requires.place.0 c.requires.place.1)

pub exchange-requires : goal.exchange-requires
exchange-requires g c =
    let e = c.compare_exchange-found.ensures in
    let h = head_of g.P.Owned.owner_of c.args.thread (Some c.args.thread) [] c.compare_exchange-found.new.seat.me.1 (e.2.1 c.if-found-eq-PARKED.true ∙ ap (λ t. (t, Some t) ∷ []) c.requires.number.0) in
    (e.0 ∙ c.requires.table, (h.0, h.1))
