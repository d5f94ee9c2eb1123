-- The collection of a thread that is alone.
use Rattle.std.proofs.Common.{◌≡◌, ℕ, List, length, set, sym, ◌∙◌, subst, ap, refl}
use Rattle.std.proofs.lemmas.List.{with_items_is}
use Rattle.heap_terms.specs.declared.phases.Phase.{Phase}
use Rattle.heap_terms.specs.declared.phases.Phase.TheVariants.{Collecting}
use Rattle.heap_terms.specs.declared.phases.Task.TheVariants.{Happen}
use Rattle.heap_terms.specs.declared.programs.Program.{Program}
use Rattle.heap_terms.specs.Phases.{releasing_from}
use Rattle.heap_terms.specs.Valid.{IsValid}
use Rattle.heap_laws.proofs.EventSteps.{limited}
use Rattle.heap_turns.specs.Parcels.{AreReady}
use Rattle.lisp_heap.specs.Events.{Happens}
use Rattle.lisp_heap.specs.ParcelView.{ParcelView}
use Rattle.machine_laws.specs.Laws.{IsAlone}
use Rattle.machine_laws.proofs.Steps.{alone}
use Rattle.replay_core.specs.MachineSound.{IsSound, view_of}
use Rattle.replay_core.specs.MachineView.{configuration_of}
use Rattle.replay_core.specs.declared.machine.Machine.TheInside.{Inside}
use Rattle.replay_core.proofs.Asking.{Asked, asked}
use Rattle.replay_core.proofs.Turning.{seen, collection_done, event_orderly}
use Rattle.replay_core.proofs.machine.Machine.collect.Goals as goal

-- the thread is alone
is_alone : (s : Inside) (t : ℕ) → IsSound s → Asked s t Collecting Happen → IsAlone s.world.program (configuration_of (view_of s)) t
is_alone s t h a = alone s.world.program (configuration_of (view_of s)) t (limited s.world.program h.valid) h.orderly a.thread a.phase

pub collect_alone-requires-clause-ready : goal.collect_alone-requires-clause-ready
collect_alone-requires-clause-ready c =
    subst (λ (ps : List ParcelView). AreReady c.self.inside.world ps) (sym c.as_mut_slice.ensures.value) c.self.invariant.ready

pub collect_alone-requires-clause-due : goal.collect_alone-requires-clause-due
collect_alone-requires-clause-due c =
    let s = c.self.inside in
    let a = asked s c.args.self.now c.args.t Collecting Happen c.self.view_is c.requires.thread c.requires.collecting refl in
    (is_alone s c.args.t c.self.invariant a).due

pub collect_alone-requires-clause-allowed : goal.collect_alone-requires-clause-allowed
collect_alone-requires-clause-allowed c =
    let s = c.self.inside in
    let a = asked s c.args.self.now c.args.t Collecting Happen c.self.view_is c.requires.thread c.requires.collecting refl in
    (is_alone s c.args.t c.self.invariant a).allowed

pub invariant_of-self-2 : goal.invariant_of-self-2
invariant_of-self-2 c =
    let s = c.self.inside in
    let t = c.args.t in
    let new = c.collect_alone.new.world in
    let a = asked s c.args.self.now t Collecting Happen c.self.view_is c.requires.thread c.requires.collecting refl in
    let h : Happens t s.world new = c.in_ok-collect_alone.ensures.ok in
    let phases = c.set.ensures ∙ ap (λ (x : Phase). set s.phases t x) (c.release_from.ensures ∙ ap (λ (n : ℕ). releasing_from n t 0) c.threads-threads.ensures) in
    let program = ap (λ (p : Program). length p.threads) h.program in
    let ready : AreReady new c.collect_alone.new.parcels = c.collect_alone.ensures.ready in
    let same_length : length c.collect_alone.new.parcels ≡ s.parcels.len =
    ready.count ∙ program ∙ sym c.self.invariant.ready.count ∙ sym (ap (λ (ps : List ParcelView). length ps) c.as_mut_slice.ensures.value) ∙ c.as_mut_slice.ensures.len in
    let same = phases ∙ ap (λ (n : ℕ). set s.phases t (releasing_from n t 0)) program in
    record {
      valid = subst (λ (p : Program). IsValid p) (sym h.program) c.self.invariant.valid;
      ready = subst (λ (ps : List ParcelView). AreReady new ps) (sym (with_items_is s.parcels c.collect_alone.new.parcels same_length)) ready;
      orderly = event_orderly (view_of s) (seen new s.stops.turn s.stops.words c.set.new.self) t c.self.invariant.valid c.self.invariant.orderly a.thread a.is
          (collection_done s.world new s.stops.turn s.stops.words s.phases c.set.new.self t h a.phase same);
    }
