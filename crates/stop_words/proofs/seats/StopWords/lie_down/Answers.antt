use Rattle.std.proofs.Common.{None, Some, ◌∙◌, arith}
use Rattle.stop_words.proofs.Replying.{parks_after, gone_home}
use Rattle.stop_words.proofs.seats.StopWords.lie_down.Goals as goal

pub fetch_or-requires : goal.fetch_or-requires
fetch_or-requires g c =
    let t = c.args.self.now in
    let x = c.exchange-before in
    let e = x.ensures in
    let o = c.requires.number in
    let k = t.counts in
    (e.0 ∙ c.requires.table, omega arith, parks_after g.P.Owned.owner_of t.table.shared.key t.table.shared.table_id.slots x.new.seat.id c.word_index-word.result c.args.seat.now.me x.new.seat.me c.args.parcel c.args.thread e.3 o.0 c.requires.place.0 c.requires.owner c.word_index-word.ensures)

pub returns-clause-hand : goal.returns-clause-hand
returns-clause-hand g c =
    let x = c.exchange-before in
    gone_home g.P.Owned.owner_of c.args.thread None c.args.seat.now.me x.new.seat.me c.fetch_or.new.seat.me (Some c.args.parcel) c.requires.place.1 x.ensures.3 c.fetch_or.ensures.2.1
