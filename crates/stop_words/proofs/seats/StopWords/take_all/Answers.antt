use Rattle.std.proofs.Common.{true, false, ap, ◌∙◌}
use Rattle.stop_words.specs.Hands.{labels, lying}
use Rattle.stop_words.proofs.Handing.{own_last, own_between, own_first, all_parcels}
use Rattle.stop_words.proofs.seats.StopWords.take_all.Goals as goal

pub take_range-requires-clause-hand : goal.take_range-requires-clause-hand
take_range-requires-clause-hand g c κs within =
    (_, ap (λ m. labels g.P.Owned.owner_of m.1) c.turn.ensures.2 ∙ own_last g.P.Owned.owner_of (lying false) c.args.thread c.args.self.now.threads c.args.seat.now.me.1 c.requires.hand)

pub take_range-requires-2-clause-hand : goal.take_range-requires-2-clause-hand
take_range-requires-2-clause-hand g c κs within =
    let shown = c.take_range.ensures.hand _ (ap (λ m. labels g.P.Owned.owner_of m.1) c.turn.ensures.2 ∙ own_last g.P.Owned.owner_of (lying false) c.args.thread c.args.self.now.threads c.args.seat.now.me.1 c.requires.hand) in
    (_, own_between g.P.Owned.owner_of (lying false) (lying true) c.args.thread c.args.self.now.threads _ shown)

pub returns-clause-hand : goal.returns-clause-hand
returns-clause-hand g c =
    let shown = c.take_range.ensures.hand _ (ap (λ m. labels g.P.Owned.owner_of m.1) c.turn.ensures.2 ∙ own_last g.P.Owned.owner_of (lying false) c.args.thread c.args.self.now.threads c.args.seat.now.me.1 c.requires.hand) in
    own_first g.P.Owned.owner_of (lying true) c.args.thread c.args.self.now.threads _ (c.take_range-2.ensures.hand _ (own_between g.P.Owned.owner_of (lying false) (lying true) c.args.thread c.args.self.now.threads _ shown))

pub returns-clause-parcels : goal.returns-clause-parcels
returns-clause-parcels g c =
    (all_parcels g.P.Owned.owner_of c.args.thread c.args.self.now.threads c.requires.thread c.args.into.items c.take_range.new.into.items c.push_reserved.new.self.items c.take_range-2.new.into.items c.args.own c.requires.room.0 c.requires.own c.take_range.ensures.parcels c.push_reserved.ensures.items c.take_range-2.ensures.parcels).0

pub returns-clause-own : goal.returns-clause-own
returns-clause-own g c =
    (all_parcels g.P.Owned.owner_of c.args.thread c.args.self.now.threads c.requires.thread c.args.into.items c.take_range.new.into.items c.push_reserved.new.self.items c.take_range-2.new.into.items c.args.own c.requires.room.0 c.requires.own c.take_range.ensures.parcels c.push_reserved.ensures.items c.take_range-2.ensures.parcels).1
