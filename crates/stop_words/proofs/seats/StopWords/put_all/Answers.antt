use Rattle.std.proofs.Common.{◌≡◌, ◌++◌, [], true, ap, sym, subst, ◌∙◌, option_to_list, append-nil, length, arith}
use Rattle.std.proofs.lemmas.List.{length-map}
use Rattle.stop_words.specs.Hands.{labels, lying}
use Rattle.stop_words.specs.Gathers.{GaveBack}
use Rattle.stop_words.proofs.Start.{length-numbers_from}
use Rattle.stop_words.proofs.Moves.{returns}
use Rattle.stop_words.proofs.Handing.{own_last, to_pop, popped, some_left, none_left, own_there}
use Rattle.stop_words.proofs.Releasing.{all_back, gives_back}
use Rattle.stop_words.proofs.seats.StopWords.put_all.Goals as goal

pub put_range-requires-clause-hand : goal.put_range-requires-clause-hand
put_range-requires-clause-hand g c κs within =
    (_, ap (λ m. labels g.P.Owned.owner_of m.1) c.turn.ensures.2 ∙ own_last g.P.Owned.owner_of (lying true) c.args.thread c.args.self.now.threads c.args.seat.now.me.1 c.requires.hand)

pub put_range-requires-clause-parcels : goal.put_range-requires-clause-parcels
put_range-requires-clause-parcels g c κs within =
    (_, to_pop g.P.Owned.owner_of c.args.self.now.threads c.args.thread c.args.parcels.items c.reverse.new.self.items c.requires.thread.0 c.requires.parcels c.reverse.ensures.items)

pub unwrap-own-requires : goal.unwrap-own-requires
unwrap-own-requires g c =
    let left = c.put_range.ensures.parcels _ (to_pop g.P.Owned.owner_of c.args.self.now.threads c.args.thread c.args.parcels.items c.reverse.new.self.items c.requires.thread.0 c.requires.parcels c.reverse.ensures.items) in
    let s = some_left g.P.Owned.owner_of c.put_range.new.parcels.items c.args.thread _ left in
    c.pop.ensures.variant.1 (let v = c.put_range.new.parcels.ok.0 in omega arith)

pub put_range-requires-2-clause-hand : goal.put_range-requires-2-clause-hand
put_range-requires-2-clause-hand g c κs within =
    (_, c.put_range.ensures.hand _ (ap (λ m. labels g.P.Owned.owner_of m.1) c.turn.ensures.2 ∙ own_last g.P.Owned.owner_of (lying true) c.args.thread c.args.self.now.threads c.args.seat.now.me.1 c.requires.hand))

pub put_range-requires-2-clause-parcels : goal.put_range-requires-2-clause-parcels
put_range-requires-2-clause-parcels g c κs within =
    let left = c.put_range.ensures.parcels _ (to_pop g.P.Owned.owner_of c.args.self.now.threads c.args.thread c.args.parcels.items c.reverse.new.self.items c.requires.thread.0 c.requires.parcels c.reverse.ensures.items) in
    let p = popped g.P.Owned.owner_of c.put_range.new.parcels.items c.pop.new.self.items c.unwrap-own.result c.args.thread _ (c.pop.ensures.items ∙ ap (λ o. c.pop.new.self.items ++ option_to_list o) c.unwrap-own.ensures) left in
    ([], p.1 ∙ sym (append-nil _))

pub swap-requires : goal.swap-requires
swap-requires g c =
    let t = c.args.self.now in
    let view = ap (λ m. m.0) c.turn.ensures.2 in
    let first = c.put_range.ensures in
    let second = c.put_range-2.ensures in
    let k = t.counts in
    let clear = all_back c.args.thread t.threads c.turn.new.self.me.0 c.put_range.new.seat.me.0 c.put_range-2.new.seat.me.0 c.requires.thread.0 (ap (λ v. v.thread) view ∙ c.requires.thread.1) first.steps second.steps in (
      second.table ∙ first.table ∙ c.turn.ensures.0 ∙ c.requires.table,
      omega arith,
      returns g.P.Owned.owner_of t.table.shared.key t.table.shared.table_id.slots c.put_range-2.new.seat.id c.put_range-2.new.seat.me
          (second.steps.place ∙ first.steps.place ∙ ap (λ v. v.place) view ∙ c.requires.holder.0) (λ u lt apart. clear u (omega arith) apart),
    )

pub returns-clause-steps : goal.returns-clause-steps
returns-clause-steps g c =
    let t = c.args.self.now in
    let view = ap (λ m. m.0) c.turn.ensures.2 in
    let s = c.swap.ensures.2 in
    subst (λ v. GaveBack t.threads v c.swap.new.seat.me.0) view
    (gives_back c.args.thread t.threads c.swap.result c.turn.new.self.me.0 c.put_range.new.seat.me.0 c.put_range-2.new.seat.me.0 c.swap.new.seat.me.0 c.requires.thread.0 (ap (λ v. v.thread) view ∙ c.requires.thread.1) c.put_range.ensures.steps c.put_range-2.ensures.steps s.0 s.2)

pub returns-clause-hand : goal.returns-clause-hand
returns-clause-hand g c =
    ap (labels g.P.Owned.owner_of) c.swap.ensures.2.1 ∙ c.put_range-2.ensures.hand _ (c.put_range.ensures.hand _ (ap (λ m. labels g.P.Owned.owner_of m.1) c.turn.ensures.2 ∙ own_last g.P.Owned.owner_of (lying true) c.args.thread c.args.self.now.threads c.args.seat.now.me.1 c.requires.hand))

pub returns-clause-own : goal.returns-clause-own
returns-clause-own g c =
    let left = c.put_range.ensures.parcels _ (to_pop g.P.Owned.owner_of c.args.self.now.threads c.args.thread c.args.parcels.items c.reverse.new.self.items c.requires.thread.0 c.requires.parcels c.reverse.ensures.items) in
    (popped g.P.Owned.owner_of c.put_range.new.parcels.items c.pop.new.self.items c.unwrap-own.result c.args.thread _ (c.pop.ensures.items ∙ ap (λ o. c.pop.new.self.items ++ option_to_list o) c.unwrap-own.ensures) left).0

pub returns-clause-parcel : goal.returns-clause-parcel
returns-clause-parcel g c =
    own_there g.P.Owned.owner_of c.args.parcels.items c.reverse.new.self.items c.put_range.new.parcels.items c.pop.new.self.items c.unwrap-own.result c.args.thread c.reverse.ensures.items c.put_range.ensures.put
    (c.pop.ensures.items ∙ ap (λ o. c.pop.new.self.items ++ option_to_list o) c.unwrap-own.ensures)

pub returns-clause-room : goal.returns-clause-room
returns-clause-room g c =
    let left = c.put_range.ensures.parcels _ (to_pop g.P.Owned.owner_of c.args.self.now.threads c.args.thread c.args.parcels.items c.reverse.new.self.items c.requires.thread.0 c.requires.parcels c.reverse.ensures.items) in
    let p = popped g.P.Owned.owner_of c.put_range.new.parcels.items c.pop.new.self.items c.unwrap-own.result c.args.thread _ (c.pop.ensures.items ∙ ap (λ o. c.pop.new.self.items ++ option_to_list o) c.unwrap-own.ensures) left in
    let size : length c.args.parcels.items ≡ c.args.self.now.threads = sym (length-map c.args.parcels.items g.P.Owned.owner_of) ∙ ap length c.requires.parcels ∙ length-numbers_from 0 c.args.self.now.threads in
    let room = c.put_range-2.ensures.room ∙ c.pop.ensures.capacity ∙ c.put_range.ensures.room ∙ c.reverse.ensures.capacity in
    let v = c.args.parcels.ok in
    (none_left g.P.Owned.owner_of c.put_range-2.new.parcels.items (c.put_range-2.ensures.parcels [] (p.1 ∙ sym (append-nil _))), omega arith)
