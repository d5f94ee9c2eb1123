-- Every turn keeps the configuration orderly, and the first one is.
use Rattle.std.proofs.Common.{◌≡◌, ℕ, ◌+◌, ◌<◌, List, ◌∷◌, length, Bool, true, false, refl, sym, ◌∙◌, ap, subst, arith}
use Rattle.std.proofs.lemmas.Bool.{false≢true, eqb-true, eqb-false}
use Rattle.std.proofs.lemmas.List.{length-set}
use Rattle.std.specs.Prelude.{◌==◌, ◌||◌, not}
use Rattle.heap_terms.specs.declared.events.Event.{Event}
use Rattle.heap_terms.specs.declared.phases.Phase.{Phase}
use Rattle.heap_terms.specs.declared.phases.Phase.TheVariants.{Parked, Outside, Inside, Leaving, Parking, Posting, Looking, Collecting, Releasing, Returning, Ended}
use Rattle.heap_terms.specs.declared.programs.Program.{Program}
use Rattle.heap_terms.specs.declared.steps.ReplayLine.{ReplayLine}
use Rattle.heap_terms.specs.declared.steps.WordStep.{WordStep}
use Rattle.heap_terms.specs.Heap.{NamedHeap, thread_at}
use Rattle.heap_terms.specs.Histories.{Lawful, replay, after, next, thread_of}
use Rattle.heap_terms.specs.MachineTurns.{Configuration, phase_of, is_due, has_ended, opens, stays_inside, Does, IsTurn, answer_in, Walks, HasEvent}
use Rattle.heap_terms.specs.declared.phases.Task.{Task}
use Rattle.heap_terms.specs.declared.phases.Task.TheVariants.{Walk, Happen, Rest}
use Rattle.heap_terms.specs.Phases.{collects, is_over, task_at, walked, happened, went, looking_from, posting_from, releasing_from}
use Rattle.heap_laws.specs.Limited.{IsLimited}
use Rattle.heap_laws.proofs.EventSteps.{history-kept}
use Rattle.heap_laws.proofs.NextEvents.{Lawful-push, replay-push}
use Rattle.machine_laws.specs.Fitting.{Fits}
use Rattle.machine_laws.specs.Orderly.{IsOrderly, inhibits_in}
use Rattle.machine_laws.proofs.EventFacts.{IsEventStep, event_step}
use Rattle.machine_laws.proofs.OrderKept.{order_kept}
use Rattle.machine_laws.proofs.Others.{by_change, There, Last, other_case}
use Rattle.machine_laws.proofs.OrderKept.{phases_changed}

looking_fits : (n t u : ℕ) (over : Bool) (inhibits : ℕ) → inhibits ≡ 0 → Fits (looking_from n t u) true over inhibits
looking_fits n t u over inhibits e = elim (other_case n t u) [ There is below ↦ rw is (refl, e) | Last is all ↦ rw is (refl, e) ]

posting_fits : (n t u : ℕ) (over : Bool) (inhibits : ℕ) → inhibits ≡ 0 → Fits (posting_from n t u) true over inhibits
posting_fits n t u over inhibits e = elim (other_case n t u) [ There is below ↦ rw is (refl, e) | Last is all ↦ rw is (looking_fits n t 0 over inhibits e) ]

releasing_fits : (n t u : ℕ) (due : Bool) (inhibits : ℕ) → inhibits ≡ 0 → Fits (releasing_from n t u) due false inhibits
releasing_fits n t u due inhibits e = elim (other_case n t u) [ There is below ↦ rw is (refl, e) | Last is all ↦ rw is (refl, e) ]

-- a word step leads to a phase that its thread may be at
walk_fits : (n t : ℕ) (ph : Phase) (due over gone : Bool) (inhibits : ℕ) → Fits ph due over inhibits → Fits (walked n t ph due over gone) due over inhibits
walk_fits n t Parked due over true inhibits h = h
walk_fits n t Parked due over false inhibits h = h
walk_fits n t Outside true over true inhibits h = posting_fits n t 0 over inhibits h.1
walk_fits n t Outside false over true inhibits h = (refl, h.0)
walk_fits n t Outside due over false inhibits h = h.1
walk_fits n t Inside due over gone inhibits h = h
walk_fits n t Leaving due true true inhibits h = h
walk_fits n t Leaving due false true inhibits h = (refl, h)
walk_fits n t Leaving due over false inhibits h = h
walk_fits n t Parking due true gone inhibits h = (refl, h)
walk_fits n t Parking due false gone inhibits h = (refl, h)
walk_fits n t (Posting v) true over gone inhibits h = posting_fits n t (v + 1) over inhibits h.1
walk_fits n t (Posting v) false over gone inhibits h = absurd (false≢true h.0)
walk_fits n t (Looking v) true over true inhibits h = looking_fits n t (v + 1) over inhibits h.1
walk_fits n t (Looking v) false over true inhibits h = absurd (false≢true h.0)
walk_fits n t (Looking v) due over false inhibits h = h
walk_fits n t Collecting due over gone inhibits h = h
walk_fits n t (Releasing v) due over gone inhibits h = subst (λ (b : Bool). Fits (releasing_from n t (v + 1)) due b inhibits) (sym h.0) (releasing_fits n t (v + 1) due inhibits h.1)
walk_fits n t Returning due over gone inhibits h = h
walk_fits n t Ended due over gone inhibits h = h

-- and so does an event inside a section
inside_fits : (p : Program) (a b : NamedHeap) (n t : ℕ) (e : Event) → thread_of e ≡ t → IsEventStep p a b t e →
    Fits (happened n t Inside (stays_inside b e)) (collects (next p b t)) (is_over (next p b t)) (thread_at b t).inhibits
inside_fits p a b n t e same s = subst (λ (u : ℕ). Fits (happened n t Inside (opens e || not ((thread_at b u).inhibits == 0))) (collects (next p b t)) (is_over (next p b t)) (thread_at b t).inhibits) (sym same)
    (by_case (opens e) ((thread_at b t).inhibits == 0) refl refl)
  where
    by_case : (opened none : Bool) → opens e ≡ opened → ((thread_at b t).inhibits == 0) ≡ none →
        Fits (happened n t Inside (opened || not none)) (collects (next p b t)) (is_over (next p b t)) (thread_at b t).inhibits
    by_case true none is zero_is = s.opened is
    by_case false true is zero_is = eqb-true (thread_at b t).inhibits 0 zero_is
    by_case false false is zero_is = s.inhibiting (eqb-false (thread_at b t).inhibits 0 zero_is)

-- the thread that had the turn, after an event
event_fits : (p : Program) (a b : NamedHeap) (n t : ℕ) (ph : Phase) (e : Event) → thread_of e ≡ t → IsEventStep p a b t e →
    task_at ph (collects (next p a t)) ≡ Happen → Fits ph (collects (next p a t)) (is_over (next p a t)) (thread_at a t).inhibits →
    Fits (happened n t ph (stays_inside b e)) (collects (next p b t)) (is_over (next p b t)) (thread_at b t).inhibits
event_fits p a b n t Inside e same s task h = inside_fits p a b n t e same s
event_fits p a b n t Collecting e same s task h =
    let goes = s.collected h.0 in
    subst (λ (over : Bool). Fits (releasing_from n t 0) (collects (next p b t)) over (thread_at b t).inhibits) (sym goes.0)
    (releasing_fits n t 0 (collects (next p b t)) (thread_at b t).inhibits (goes.1 ∙ h.1))
event_fits p a b n t Parked e same s task h = cc
event_fits p a b n t Outside e same s task h = cc
event_fits p a b n t Leaving e same s task h = cc
event_fits p a b n t Parking e same s task h = cc
event_fits p a b n t (Posting v) e same s task h = cc
event_fits p a b n t (Looking v) e same s task h = cc
event_fits p a b n t (Releasing v) e same s task h = cc
event_fits p a b n t Returning e same s task h = cc
event_fits p a b n t Ended e same s task h = cc

-- what follows a turn, by its task
abbrev FitsAt : Program → Configuration → ℕ → Type 0
FitsAt p c u = Fits (phase_of c u) (is_due p c.history u) (has_ended p c.history u) (inhibits_in p c u)

-- the heap after an event
pub event_heap : (p : Program) (t : ℕ) (old new : Configuration) (lines : List ReplayLine) → (d : HasEvent p t old lines new) →
    replay p new.history ≡ after p (replay p old.history) d.event
event_heap p t old new lines d = ap (replay p) d.history ∙ replay-push p old.history d.event

-- an event, as the machine sees it
pub event_seen : (p : Program) (t : ℕ) (old new : Configuration) (lines : List ReplayLine) → IsLimited p → IsOrderly p old → (d : HasEvent p t old lines new) →
    IsEventStep p (replay p old.history) (replay p new.history) t d.event
event_seen p t old new lines limits o d =
    subst (λ (b : NamedHeap). IsEventStep p (replay p old.history) b t d.event) (sym (event_heap p t old new lines d))
    (subst (λ (u : ℕ). IsEventStep p (replay p old.history) (after p (replay p old.history) d.event) u d.event) d.thread
    (event_step p (replay p old.history) d.event limits (history-kept p old.history limits o.lawful) d.lawful))

walk_orderly : (p : Program) (t : ℕ) (step : WordStep) (old new : Configuration) (lines : List ReplayLine) → IsOrderly p old → t < length p.threads →
    IsTurn p t old lines new → Walks p t step old lines new → IsOrderly p new
walk_orderly p t step old new lines o l turn w = record {
  lawful = subst (λ (h : List Event). Lawful p h) (sym w.history) o.lawful;
  words_count = (let same : length (new.turn ∷ new.words) ≡ length (old.turn ∷ old.words) = ap length w.words ∙ length-set (old.turn ∷ old.words) _ _ in let long = o.words_count in omega arith);
  phases_count = ap length w.phases ∙ length-set old.phases t _ ∙ o.phases_count;
  order = order_kept p t old new lines o l turn;
  fits = λ u below. subst (λ (h : List Event). Fits (phase_of new u) (is_due p h u) (has_ended p h u) (thread_at (replay p h) u).inhibits) (sym w.history)
      (by_change (λ v x. Fits x (is_due p old.history v) (has_ended p old.history v) (thread_at (replay p old.history) v).inhibits) t _ (phase_of old) (phase_of new)
      (phases_changed p t old new _ o l w.phases)
      (walk_fits (length p.threads) t (phase_of old t) (is_due p old.history t) (has_ended p old.history t) (went (answer_in old t step)) (inhibits_in p old t) (o.fits t l))
      u (λ apart. o.fits u below));
}

event_orderly : (p : Program) (t : ℕ) (old new : Configuration) (lines : List ReplayLine) → IsLimited p → IsOrderly p old → t < length p.threads →
    IsTurn p t old lines new → task_at (phase_of old t) (is_due p old.history t) ≡ Happen → HasEvent p t old lines new → IsOrderly p new
event_orderly p t old new lines limits o l turn task d =
    let s = event_seen p t old new lines limits o d in
    record {
      lawful = subst (λ (h : List Event). Lawful p h) (sym d.history) (Lawful-push p old.history d.event o.lawful d.lawful);
      words_count = ap length d.words ∙ o.words_count;
      phases_count = ap length d.phases ∙ length-set old.phases t _ ∙ o.phases_count;
      order = order_kept p t old new lines o l turn;
      fits = λ u below. by_change (λ v x. Fits x (is_due p new.history v) (has_ended p new.history v) (inhibits_in p new v)) t _ (phase_of old) (phase_of new)
          (phases_changed p t old new _ o l d.phases)
          (event_fits p (replay p old.history) (replay p new.history) (length p.threads) t (phase_of old t) d.event d.thread s task (o.fits t l))
          u (λ apart. (let same = s.others u apart in rw (same.due, same.over, same.inhibits) (o.fits u below)));
    }

-- every turn
pub turn_orderly : (p : Program) (t : ℕ) (old new : Configuration) (lines : List ReplayLine) → IsLimited p → IsOrderly p old → t < length p.threads → IsTurn p t old lines new → IsOrderly p new
turn_orderly p t old new lines limits o l turn = by_task (task_at (phase_of old t) (is_due p old.history t)) refl turn
  where
    by_task : (task : Task) → task_at (phase_of old t) (is_due p old.history t) ≡ task → Does p t task old lines new → IsOrderly p new
    by_task (Walk step) is d = walk_orderly p t step old new lines o l turn d
    by_task Happen is d = event_orderly p t old new lines limits o l turn is d
    by_task Rest is d = subst (λ (c : Configuration). IsOrderly p c) (sym d.same) o
