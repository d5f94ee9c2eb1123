-- By weakness: what it keeps of the pair is settled.
use Rattle.std.proofs.Common.{◌≡◌, ℕ, Bool, true, subst}
use Rattle.heap_terms.specs.declared.kinds.Weakness.TheVariants as weaknesses
use Rattle.heap_terms.specs.Live.{is_live}
use Rattle.copy_space.specs.Settled.{is_settled}
use Rattle.copy_space.specs.State.{state}
use Rattle.copy_space.proofs.FrameLaws.{live-stays, word-of-stays}
use Rattle.scavenge.proofs.Frames.{same-on}
use Rattle.weak_refs.proofs.Readies.{readies-on, strong-key, strong-value, value-follows, key-follows, or-first, or-second, ready-as, same-first, same-second, same-set}
use Rattle.weak_refs.proofs.readying.ready_pair.Goals as goal

pub settle_side-requires : goal.settle_side-requires
settle_side-requires g c = strong-key g.a (state c.args.copier.now) c.args.weakness c.args.key c.args.value c.requires c.in-Strong.is

pub settle_side-requires-in-Strong : goal.settle_side-requires-in-Strong
settle_side-requires-in-Strong g c =
    strong-value g.a (state c.args.copier.now) c.args.weakness c.args.key c.args.value c.requires c.in-Strong.is (state c.settle_side.new.copier) c.settle_side.ensures.readies

pub follow-requires : goal.follow-requires
follow-requires g c = value-follows g.a (state c.args.copier.now) c.args.weakness c.args.key c.args.value c.requires c.in-Key.is

pub follow-requires-in-Value : goal.follow-requires-in-Value
follow-requires-in-Value g c = key-follows g.a (state c.args.copier.now) c.args.weakness c.args.key c.args.value c.requires c.in-Value.is

pub follow-key_open-requires : goal.follow-key_open-requires
follow-key_open-requires g c = or-first g.a (state c.args.copier.now) c.args.weakness c.args.key c.args.value c.requires c.in-KeyOrValue.is

pub follow-value_open-requires : goal.follow-value_open-requires
follow-value_open-requires g c =
    or-second g.a (state c.args.copier.now) c.args.weakness c.args.key c.args.value c.requires c.in-KeyOrValue.is (state c.follow-key_open.new.copier) c.follow-key_open.ensures.readies

pub returns-in-Strong-clause-readies : goal.returns-in-Strong-clause-readies
returns-in-Strong-clause-readies g c =
    readies-on g.a (state c.args.copier.now) (state c.settle_side.new.copier) (state c.settle_side-in-Strong.new.copier) c.settle_side.ensures.readies c.settle_side-in-Strong.ensures.readies

pub returns-in-Strong-clause-ready : goal.returns-in-Strong-clause-ready
returns-in-Strong-clause-ready g c = λ u v hu hv same.
    (let s = state c.args.copier.now in
    let t = state c.settle_side.new.copier in
    let z = state c.settle_side-in-Strong.new.copier in
    ready-as c.args.weakness weaknesses.Strong (is_live (is_settled g.a z) u) (is_live (is_settled g.a z) v) c.in-Strong.is (
      live-stays g.a t z c.settle_side-in-Strong.ensures.readies.goes.grows u (c.settle_side.ensures.settled u hu),
      c.settle_side-in-Strong.ensures.settled v (word-of-stays g.a s t c.settle_side.ensures.readies.goes.grows v c.args.value hv),
    ))

pub returns-in-Strong-clause-same : goal.returns-in-Strong-clause-same
returns-in-Strong-clause-same g c = same-on c.args.copier.now c.settle_side.new.copier c.settle_side-in-Strong.new.copier c.settle_side.ensures.same c.settle_side-in-Strong.ensures.same

pub returns-in-Key-clause-ready : goal.returns-in-Key-clause-ready
returns-in-Key-clause-ready g c = λ u v hu hv same.
    ready-as c.args.weakness weaknesses.Key (is_live (is_settled g.a (state c.follow.new.copier)) u) (is_live (is_settled g.a (state c.follow.new.copier)) v) c.in-Key.is
    (c.follow.ensures.ready u v hu hv same)

pub returns-in-Value-clause-ready : goal.returns-in-Value-clause-ready
returns-in-Value-clause-ready g c = λ u v hu hv same.
    ready-as c.args.weakness weaknesses.Value (is_live (is_settled g.a (state c.follow-in-Value.new.copier)) u) (is_live (is_settled g.a (state c.follow-in-Value.new.copier)) v) c.in-Value.is
    (c.follow-in-Value.ensures.ready v u hv hu same)

pub returns-in-KeyOrValue-clause-readies : goal.returns-in-KeyOrValue-clause-readies
returns-in-KeyOrValue-clause-readies g c =
    readies-on g.a (state c.args.copier.now) (state c.follow-key_open.new.copier) (state c.follow-value_open.new.copier) c.follow-key_open.ensures.readies c.follow-value_open.ensures.readies

pub returns-in-KeyOrValue-clause-ready : goal.returns-in-KeyOrValue-clause-ready
returns-in-KeyOrValue-clause-ready g c = λ u v hu hv same.
    (let s = state c.args.copier.now in
    let t = state c.follow-key_open.new.copier in
    let z = state c.follow-value_open.new.copier in
    let h = c.follow-key_open.ensures.readies in
    let k = c.follow-value_open.ensures.readies in
    let one = same-first g.a s t z h k same in
    let two = same-second g.a s t z h k same in
    ready-as c.args.weakness weaknesses.KeyOrValue (is_live (is_settled g.a z) u) (is_live (is_settled g.a z) v) c.in-KeyOrValue.is (
      (λ live. live-stays g.a t z k.goes.grows v (c.follow-key_open.ensures.ready u v hu hv one
          (subst (λ (f : ℕ → Bool). is_live f u ≡ true) (same-set g.a t z h.midway k two) live))),
      c.follow-value_open.ensures.ready v u (word-of-stays g.a s t h.goes.grows v c.args.value hv) (word-of-stays g.a s t h.goes.grows u c.args.key hu) two,
    ))

pub returns-in-KeyOrValue-clause-same : goal.returns-in-KeyOrValue-clause-same
returns-in-KeyOrValue-clause-same g c =
    same-on c.args.copier.now c.follow-key_open.new.copier c.follow-value_open.new.copier c.follow-key_open.ensures.same c.follow-value_open.ensures.same
