use Rattle.std.proofs.Common.{◌≤◌, Some, None, true, false, ap, ◌∙◌, arith}
use Rattle.atomic_table.specs.Table.{turned}
use Rattle.stop_words.specs.Hands.{labels, lying}
use Rattle.stop_words.proofs.SeatFacts.{head_of, read_label, some_there, owner_is}
use Rattle.stop_words.proofs.Handing.{next_slot, turned_hand, more_parcels}
use Rattle.stop_words.proofs.seats.StopWords.take_range.Goals as goal

pub exchange-parcel-requires : goal.exchange-parcel-requires
exchange-parcel-requires g c =
    let i = c.loop-slot.invariant in
    let t = c.requires.hand in
    let lo : c.args.from ≤ c.loop-slot.slot = c.loop-slot.auto.slot in
    let n = next_slot (lying false) (lying true) c.args.from c.args.to c.loop-slot.slot t.0 (labels g.P.Owned.owner_of c.loop-slot.seat.me.1) lo c.loop-slot-test.true (i.hand t.0 t.1) in
    let h = head_of g.P.Owned.owner_of c.loop-slot.slot (Some c.loop-slot.slot) _ c.loop-slot.seat.me.1 n.0 in
    (i.table ∙ c.requires.table, (h.0, h.1))

pub unwrap-requires : goal.unwrap-requires
unwrap-requires g c =
    let i = c.loop-slot.invariant in
    let t = c.requires.hand in
    let lo : c.args.from ≤ c.loop-slot.slot = c.loop-slot.auto.slot in
    let n = next_slot (lying false) (lying true) c.args.from c.args.to c.loop-slot.slot t.0 (labels g.P.Owned.owner_of c.loop-slot.seat.me.1) lo c.loop-slot-test.true (i.hand t.0 t.1) in
    some_there g.P.Owned.owner_of c.exchange-parcel.result c.loop-slot.slot (read_label g.P.Owned.owner_of c.loop-slot.slot (Some c.loop-slot.slot) _ c.loop-slot.seat.me.1 c.exchange-parcel.result n.0 c.exchange-parcel.ensures.2)

pub loop-slot-preserved : goal.loop-slot-preserved
loop-slot-preserved g c =
    let i = c.loop-slot.invariant in
    let t = c.requires.hand in
    let lo : c.args.from ≤ c.loop-slot.slot = c.loop-slot.auto.slot in
    let n = next_slot (lying false) (lying true) c.args.from c.args.to c.loop-slot.slot t.0 (labels g.P.Owned.owner_of c.loop-slot.seat.me.1) lo c.loop-slot-test.true (i.hand t.0 t.1) in
    let e = c.exchange-parcel.ensures in
    let u = c.turn.ensures in
    let p = c.push_reserved.ensures in
    let label_is = read_label g.P.Owned.owner_of c.loop-slot.slot (Some c.loop-slot.slot) _ c.loop-slot.seat.me.1 c.exchange-parcel.result n.0 e.2 in record {
      table = u.0 ∙ e.0 ∙ i.table;
      view = ap (λ m. m.0) u.2 ∙ ap (λ m. m.0) e.3 ∙ i.view;
      hand = λ tail shown.
          let k = next_slot (lying false) (lying true) c.args.from c.args.to c.loop-slot.slot tail (labels g.P.Owned.owner_of c.loop-slot.seat.me.1) lo c.loop-slot-test.true (i.hand tail shown) in
          ap (λ m. labels g.P.Owned.owner_of m.1) u.2 ∙ ap (λ m. labels g.P.Owned.owner_of (turned m.1)) e.3 ∙ turned_hand g.P.Owned.owner_of c.loop-slot.slot (Some c.loop-slot.slot) None c.loop-slot.seat.me.1 _ k.0 ∙ k.1;
      parcels = more_parcels g.P.Owned.owner_of c.args.from c.loop-slot.slot c.args.into.now.items c.loop-slot.into.items c.push_reserved.new.self.items c.unwrap.result lo
          (owner_is g.P.Owned.owner_of c.exchange-parcel.result c.unwrap.result c.loop-slot.slot label_is c.unwrap.ensures) p.items i.parcels;
      count = let l = p.len in let k = i.count in omega arith;
      room = p.capacity ∙ i.room;
    }
