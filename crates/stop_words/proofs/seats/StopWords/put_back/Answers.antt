use Rattle.std.proofs.Common.{None, Some, ◌∙◌, arith}
use Rattle.stop_words.proofs.Releasing.{releases_after, released_view, released_hand}
use Rattle.stop_words.proofs.seats.StopWords.put_back.Goals as goal

pub fetch_and-requires : goal.fetch_and-requires
fetch_and-requires g c =
    let t = c.args.self.now in
    let x = c.exchange-before in
    let e = x.ensures in
    let o = c.requires.slot in
    let k = t.counts in
    (e.0 ∙ c.requires.table, omega arith, releases_after g.P.Owned.owner_of t.table.shared.key t.table.shared.table_id.slots x.new.seat.id c.word_index-word.result c.args.seat.now.me x.new.seat.me c.args.parcel c.args.slot e.3 c.word_index-word.ensures c.requires.holder.0 c.requires.holder.1 o.1)

pub returns-clause-step : goal.returns-clause-step
returns-clause-step g c =
    let x = c.exchange-before in
    let p = c.fetch_and.ensures.2 c.args.slot c.word_index-word.ensures in
    released_view g.P.Owned.owner_of c.args.slot c.fetch_and.result c.args.seat.now.me x.new.seat.me c.fetch_and.new.seat.me (Some c.args.parcel) x.ensures.3 p.0 p.2

pub returns-clause-hand : goal.returns-clause-hand
returns-clause-hand g c = λ tail shows.
    let x = c.exchange-before in
    let p = c.fetch_and.ensures.2 c.args.slot c.word_index-word.ensures in
    released_hand g.P.Owned.owner_of c.args.slot None c.args.seat.now.me x.new.seat.me c.fetch_and.new.seat.me (Some c.args.parcel) tail x.ensures.3 p.1 shows
