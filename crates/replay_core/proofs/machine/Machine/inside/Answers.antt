use Rattle.std.proofs.Common.{ℕ, Bool, true, false, subst, refl}
use Rattle.heap_terms.specs.declared.phases.Phase.TheVariants.{Inside}
use Rattle.heap_terms.specs.declared.phases.Task.TheVariants.{Happen}
use Rattle.replay_core.specs.MachineSound.{view_of}
use Rattle.heap_turns.specs.Turns.{HappensInside}
use Rattle.replay_core.proofs.Asking.{asked}
use Rattle.replay_core.proofs.Insides.{hands_in, after_event, after_refusal}
use Rattle.replay_core.proofs.Turning.{stays_written}
use Rattle.replay_core.proofs.machine.Machine.inside.Goals as goal

pub invariant_of-self : goal.invariant_of-self
invariant_of-self c =
    let s = c.self.inside in
    let t = c.args.t in
    let a = asked s c.args.self.now t Inside Happen c.self.view_is c.requires.thread c.requires.inside refl in
    let h = hands_in s t c.event.new.world c.index_mut-parcel.result.now c.event.new.parcel c.self.invariant a.thread c.index_mut-parcel.ensures.value
    c.event.ensures.owner c.event.ensures.agrees c.event.ensures.others in
    let after = after_refusal s t c.event.new.world c.index_mut-parcel.result.now c.event.new.parcel c.self.invariant h c.in_err-stays.ensures.err in
    record { valid = after.valid; ready = after.ready; orderly = after.orderly }

pub invariant_of-self-then-not-stays : goal.invariant_of-self-then-not-stays
invariant_of-self-then-not-stays c =
    let s = c.self.inside in
    let t = c.args.t in
    let new = c.event.new.world in
    let a = asked s c.args.self.now t Inside Happen c.self.view_is c.requires.thread c.requires.inside refl in
    let h = hands_in s t new c.index_mut-parcel.result.now c.event.new.parcel c.self.invariant a.thread c.index_mut-parcel.ensures.value
    c.event.ensures.owner c.event.ensures.agrees c.event.ensures.others in
    let d : HappensInside t s.world new false = subst (λ (b : Bool). HappensInside t s.world new b) c.if-not-stays.true
    (subst (λ (u : ℕ). HappensInside u s.world new c.in_ok-stays.stays) h.owner c.in_ok-stays.ensures.ok) in
    let after = after_event s t new c.index_mut-parcel.result.now c.event.new.parcel c.set.new.self false c.self.invariant a h d c.set.ensures in
    record { valid = after.valid; ready = after.ready; orderly = after.orderly }

pub invariant_of-self-else-not-stays : goal.invariant_of-self-else-not-stays
invariant_of-self-else-not-stays c =
    let s = c.self.inside in
    let t = c.args.t in
    let new = c.event.new.world in
    let a = asked s c.args.self.now t Inside Happen c.self.view_is c.requires.thread c.requires.inside refl in
    let h = hands_in s t new c.index_mut-parcel.result.now c.event.new.parcel c.self.invariant a.thread c.index_mut-parcel.ensures.value
    c.event.ensures.owner c.event.ensures.agrees c.event.ensures.others in
    let d : HappensInside t s.world new true = subst (λ (b : Bool). HappensInside t s.world new b) c.if-not-stays.false
    (subst (λ (u : ℕ). HappensInside u s.world new c.in_ok-stays.stays) h.owner c.in_ok-stays.ensures.ok) in
    let after = after_event s t new c.index_mut-parcel.result.now c.event.new.parcel s.phases true c.self.invariant a h d
    (stays_written s.phases t (view_of s) refl a.phase) in
    record { valid = after.valid; ready = after.ready; orderly = after.orderly }
