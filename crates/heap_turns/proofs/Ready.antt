-- Parcels that are ready: at first, and after a turn of one thread.
use Rattle.std.proofs.Common.{◌≡◌, ℕ, ◌<◌, List, [], length, refl, sym, ◌∙◌, subst, ap, inl, inr, get_or, set, arith}
use Rattle.std.proofs.lemmas.Bool.{cases_eq}
use Rattle.std.proofs.lemmas.List.{get_or-set_same, get_or-set_other, length-set}
use Rattle.heap_terms.specs.declared.events.Event.{Event}
use Rattle.heap_terms.specs.declared.programs.Program.{Program}
use Rattle.heap_terms.specs.Heap.{start}
use Rattle.heap_terms.specs.Histories.{replay}
use Rattle.heap_laws.proofs.SoundHeaps.{start_thread}
use Rattle.lisp_heap.specs.Agreement.{Agrees, AreFresh, OthersAgree}
use Rattle.lisp_heap.specs.ParcelView.{ParcelView, empty_parcel}
use Rattle.lisp_heap.specs.View.{View, heap_of}
use Rattle.heap_turns.specs.Parcels.{AreReady}

-- the parcel of the thread that had the turn is written back, and the others still agree
pub ready_after : (old new : View) (ps : List ParcelView) (t : ℕ) (q : ParcelView) → AreReady old ps → t < length ps →
    new.program ≡ old.program → q.owner ≡ t → Agrees (heap_of new) q → OthersAgree (heap_of old) (heap_of new) t →
    AreReady new (set ps t q)
ready_after old new ps t q ready inside program owner agrees others =
    record {
      count = length-set ps t q ∙ ready.count ∙ sym (ap (λ (p : Program). length p.threads) program);
      owners = λ u d below. elim (cases_eq u t) [
        | inl e ↦ at_own (λ (x : ParcelView). x.owner ≡ u) u d e (owner ∙ sym e)
        | inr ne ↦ (let old_owner = ready.owners u d (rw (← length-set ps t q) below) in
            subst (λ (x : ParcelView). x.owner ≡ u) (sym (get_or-set_other ps t u q d ne)) old_owner)
      ];
      agree = λ u d below. elim (cases_eq u t) [
        | inl e ↦ at_own (λ (x : ParcelView). Agrees (heap_of new) x) u d e agrees
        | inr ne ↦ (let old_below : u < length ps = rw (← length-set ps t q) below in
            let o = ready.owners u d old_below in
            subst (λ (x : ParcelView). Agrees (heap_of new) x) (sym (get_or-set_other ps t u q d ne))
            (others (get_or ps u d) (λ same. ne (sym o ∙ same)) (ready.agree u d old_below)))
      ];
    }
  where
    at_own : (P : ParcelView → Type 0) (u : ℕ) (d : ParcelView) → u ≡ t → P q → P (get_or (set ps t q) u d)
    at_own P u d e h = subst (λ (k : ℕ). P (get_or (set ps t q) k d)) (sym e) (subst P (sym (get_or-set_same ps t q d inside)) h)

-- the same, where the parcel was found at its thread's place
pub ready_turned : (old new : View) (ps : List ParcelView) (t : ℕ) (before after : ParcelView) → AreReady old ps → t < length old.program.threads → before ≡ get_or ps t before →
    new.program ≡ old.program → after.owner ≡ before.owner → Agrees (heap_of new) after → OthersAgree (heap_of old) (heap_of new) before.owner → AreReady new (set ps t after)
ready_turned old new ps t before after ready l found program same agrees others =
    let inside : t < length ps = (let count = ready.count in omega arith) in
    let owner : before.owner ≡ t = ap (λ (q : ParcelView). q.owner) found ∙ ready.owners t before inside in
    ready_after old new ps t after ready inside program (same ∙ owner) agrees (subst (λ (u : ℕ). OthersAgree (heap_of old) (heap_of new) u) owner others)

-- before the first event a parcel without regions agrees
empty_agrees : (p : Program) (t : ℕ) → Agrees (start p) (empty_parcel t)
empty_agrees p t =
    let s = start_thread p t in
    record { cons = rw s.2 refl; boxed = rw s.2 refl; unboxed = rw s.2 refl; run = rw s.2 refl; run_type = rw s.2 refl }

-- the parcels of a new World
pub fresh_ready : (w : View) (ps : List ParcelView) → w.history ≡ [] → AreFresh ps (length w.program.threads) → AreReady w ps
fresh_ready w ps none fresh =
    record {
      count = fresh.count;
      owners = λ t d below. ap (λ (q : ParcelView). q.owner) (fresh.each t d (rw fresh.count at below));
      agree = λ t d below. subst (λ (q : ParcelView). Agrees (heap_of w) q) (sym (fresh.each t d (rw fresh.count at below)))
          (subst (λ (h : List Event). Agrees (replay w.program h) (empty_parcel t)) (sym none) (empty_agrees w.program t));
    }
