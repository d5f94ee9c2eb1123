use Rattle.std.proofs.Common.{◌≡◌, ◌≤◌, ◌+◌, ◌-◌, suc, [], ◌∷◌, ◌++◌, true, ap, sym, ◌∙◌, append_assoc, option_to_list, inr, arith}
use Rattle.stop_words.specs.Hands.{lying}
use Rattle.stop_words.proofs.Handing.{first_slot, first_number, popped, some_left}
use Rattle.stop_words.proofs.Releasing.{one_back}
use Rattle.stop_words.proofs.seats.StopWords.put_range.Goals as goal

pub unwrap-parcel-requires : goal.unwrap-parcel-requires
unwrap-parcel-requires g c =
    let i = c.loop-slot.invariant in
    let t = c.requires.parcels in
    let n = first_number c.loop-slot.slot c.args.to t.0 _ c.loop-slot-test.true (i.parcels t.0 t.1) in
    let s = some_left g.P.Owned.owner_of c.loop-slot.parcels.items c.loop-slot.slot _ n in
    c.pop.ensures.variant.1 (let v = c.loop-slot.parcels.ok.0 in omega arith)

pub put_back-requires-clause-slot : goal.put_back-requires-clause-slot
put_back-requires-clause-slot g c κs within =
    let i = c.loop-slot.invariant in
    let t = c.requires.parcels in
    let n = first_number c.loop-slot.slot c.args.to t.0 _ c.loop-slot-test.true (i.parcels t.0 t.1) in
    let r = c.requires.range in
    (omega arith, (popped g.P.Owned.owner_of c.loop-slot.parcels.items c.pop.new.self.items c.unwrap-parcel.result c.loop-slot.slot _ (c.pop.ensures.items ∙ ap (λ o. c.pop.new.self.items ++ option_to_list o) c.unwrap-parcel.ensures) n).0)

pub put_back-requires-clause-hand : goal.put_back-requires-clause-hand
put_back-requires-clause-hand g c κs within =
    let i = c.loop-slot.invariant in
    let t = c.requires.hand in
    (_, first_slot (lying true) c.loop-slot.slot c.args.to t.0 _ c.loop-slot-test.true (i.hand t.0 t.1))

pub put_back-requires-clause-holder : goal.put_back-requires-clause-holder
put_back-requires-clause-holder g c κs within =
    let i = c.loop-slot.invariant in
    let h = c.requires.holder in
    (i.steps.place ∙ h.0, i.steps.seen c.loop-slot.slot (inr (omega arith)) ∙ h.1 c.loop-slot.slot c.loop-slot.auto.slot c.loop-slot-test.true)

pub loop-slot-preserved : goal.loop-slot-preserved
loop-slot-preserved g c =
    let i = c.loop-slot.invariant in
    let p = c.put_back.ensures in
    let lo : c.args.from ≤ c.loop-slot.slot = c.loop-slot.auto.slot in record {
      table = p.table ∙ i.table;
      steps = one_back c.args.from c.loop-slot.slot c.args.seat.now.me.0 c.loop-slot.seat.me.0 c.put_back.new.seat.me.0 lo i.steps p.step;
      hand = λ tail shown. p.hand _ (first_slot (lying true) c.loop-slot.slot c.args.to tail _ c.loop-slot-test.true (i.hand tail shown));
      parcels = λ more shown.
          (popped g.P.Owned.owner_of c.loop-slot.parcels.items c.pop.new.self.items c.unwrap-parcel.result c.loop-slot.slot _ (c.pop.ensures.items ∙ ap (λ o. c.pop.new.self.items ++ option_to_list o) c.unwrap-parcel.ensures) (first_number c.loop-slot.slot c.args.to more _ c.loop-slot-test.true (i.parcels more shown))).1;
      put =
          let had = i.put in
          let last = c.pop.ensures.items ∙ ap (λ o. c.pop.new.self.items ++ option_to_list o) c.unwrap-parcel.ensures in
          let more : c.loop-slot.slot + 1 - c.args.from ≡ suc (c.loop-slot.slot - c.args.from) = omega arith in
          (c.unwrap-parcel.result ∷ had.0, had.1 ∙ ap (λ l. l ++ had.0) last ∙ append_assoc c.pop.new.self.items (c.unwrap-parcel.result ∷ []) had.0, ap suc had.2 ∙ sym more);
      room = c.pop.ensures.capacity ∙ i.room;
    }
