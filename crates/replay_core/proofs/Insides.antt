-- The parts of a machine after an event inside a section.
use Rattle.std.proofs.Common.{◌≡◌, ℕ, ◌<◌, List, length, Bool, sym, ◌∙◌, subst, ap, set, get_or}
use Rattle.std.specs.Prelude.{if◌then◌else◌}
use Rattle.heap_terms.specs.declared.phases.Phase.{Phase}
use Rattle.heap_terms.specs.declared.phases.Phase.TheVariants.{Inside, Leaving}
use Rattle.heap_terms.specs.declared.phases.Task.TheVariants.{Happen}
use Rattle.heap_terms.specs.declared.programs.Program.{Program}
use Rattle.heap_terms.specs.Valid.{IsValid}
use Rattle.lisp_heap.specs.Agreement.{Agrees, OthersAgree}
use Rattle.lisp_heap.specs.ParcelView.{ParcelView}
use Rattle.lisp_heap.specs.View.{View, heap_of}
use Rattle.machine_laws.specs.Orderly.{IsOrderly}
use Rattle.replay_core.specs.declared.machine.Machine.TheInside.{Inside as Parts}
use Rattle.replay_core.specs.MachineSound.{view_of, IsSound}
use Rattle.replay_core.specs.MachineView.{configuration_of}
use Rattle.heap_turns.specs.Parcels.{AreReady}
use Rattle.heap_turns.specs.Turns.{HappensInside}
use Rattle.replay_core.proofs.Asking.{Asked}
use Rattle.heap_turns.proofs.Ready.{ready_after}
use Rattle.replay_core.proofs.Turning.{seen, inside_done, event_orderly}

-- the parcel that the thread hands in
pub record HandsIn (s : Parts) (t : ℕ) (new : View) (before after : ParcelView) : Type 0 where
  pub inside : t < length s.parcels.items
  pub owner : before.owner ≡ t
  pub after_owner : after.owner ≡ t
  pub agrees : Agrees (heap_of new) after
  pub others : OthersAgree (heap_of s.world) (heap_of new) t

pub hands_in : (s : Parts) (t : ℕ) (new : View) (before after : ParcelView) → IsSound s → t < length s.world.program.threads → before ≡ get_or s.parcels.items t before →
    after.owner ≡ before.owner → Agrees (heap_of new) after → OthersAgree (heap_of s.world) (heap_of new) before.owner → HandsIn s t new before after
hands_in s t new before after sound l found owner_same agrees others =
    let inside : t < length s.parcels.items = subst (λ (n : ℕ). t < n) (sym sound.ready.count) l in
    let owner : before.owner ≡ t = ap (λ (q : ParcelView). q.owner) found ∙ sound.ready.owners t before inside in
    record {
      inside = inside;
      owner = owner;
      after_owner = owner_same ∙ owner;
      agrees = agrees;
      others = subst (λ (u : ℕ). OthersAgree (heap_of s.world) (heap_of new) u) owner others;
    }

-- what holds of the machine after the event
pub record IsAfter (s : Parts) (new : View) (parcels : List ParcelView) (phases : List Phase) : Type 0 where
  pub valid : IsValid new.program
  pub ready : AreReady new parcels
  pub orderly : IsOrderly new.program (configuration_of (seen new s.stops.turn s.stops.words phases))

pub after_event : (s : Parts) (t : ℕ) (new : View) (before after : ParcelView) (phases : List Phase) (stays : Bool) → IsSound s → Asked s t Inside Happen →
    HandsIn s t new before after → HappensInside t s.world new stays → phases ≡ set s.phases t (if stays then Inside else Leaving) →
    IsAfter s new (set s.parcels.items t after) phases
after_event s t new before after phases stays sound a h d phases_are = record {
  valid = subst (λ (p : Program). IsValid p) (sym d.happens.program) sound.valid;
  ready = ready_after s.world new s.parcels.items t after sound.ready h.inside d.happens.program h.after_owner h.agrees h.others;
  orderly = event_orderly (view_of s) (seen new s.stops.turn s.stops.words phases) t sound.valid sound.orderly a.thread a.is
      (inside_done s.world new s.stops.turn s.stops.words s.phases phases t stays d a.phase phases_are);
}

pub after_refusal : (s : Parts) (t : ℕ) (new : View) (before after : ParcelView) → IsSound s → HandsIn s t new before after → new ≡ s.world →
    IsAfter s new (set s.parcels.items t after) s.phases
after_refusal s t new before after sound h same = record {
  valid = subst (λ (w : View). IsValid w.program) (sym same) sound.valid;
  ready = ready_after s.world new s.parcels.items t after sound.ready h.inside (ap (λ (w : View). w.program) same) h.after_owner h.agrees h.others;
  orderly = subst (λ (w : View). IsOrderly w.program (configuration_of (seen w s.stops.turn s.stops.words s.phases))) (sym same) sound.orderly;
}
