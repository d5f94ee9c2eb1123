-- The history of a run is complete.
use Rattle.std.proofs.Common.{◌≡◌, ℕ, zero, suc, ◌<◌, ◌≤◌, List, [], ◌∷◌, ◌++◌, length, inl, inr, sym, ◌∙◌, ap, subst, arith}
use Rattle.std.proofs.lemmas.Bool.{cases_lt}
use Rattle.std.proofs.lemmas.List.{get_or_past}
use Rattle.std.proofs.lemmas.List.Elements.{recursion_from_All}
use Rattle.std.specs.Prelude.{All}
use Rattle.std.specs.List.{range_with_len}
use Rattle.heap_terms.specs.declared.events.Event.{Event}
use Rattle.heap_terms.specs.declared.phases.Phase.{Phase}
use Rattle.heap_terms.specs.declared.phases.Phase.TheVariants.{Ended}
use Rattle.heap_terms.specs.declared.programs.Program.{Program}
use Rattle.heap_terms.specs.declared.steps.ReplayLine.{ReplayLine}
use Rattle.heap_terms.specs.Complete.{IsComplete}
use Rattle.heap_terms.specs.Heap.{Thread, ended_thread, fresh_thread}
use Rattle.heap_terms.specs.Histories.{replay}
use Rattle.heap_terms.specs.MachineTurns.{Configuration, machine_start, phase_of, is_due, has_ended}
use Rattle.heap_terms.specs.Runs.{rounds_of, IsRun, AreTurns}
use Rattle.heap_terms.specs.WellFormed.{IsWellFormed}
use Rattle.heap_laws.specs.Limited.{IsLimited}
use Rattle.heap_laws.proofs.EventSteps.{history-kept}
use Rattle.machine_laws.specs.Fitting.{Fits}
use Rattle.machine_laws.specs.Measure.{measure}
use Rattle.machine_laws.specs.Orderly.{IsOrderly, inhibits_in}
use Rattle.machine_laws.proofs.EventFacts.{over_is}
use Rattle.machine_laws.proofs.Rounds.{AreThreads, turns_orderly, start_orderly, range_named, turns_never_rise}

-- where every thread is at its end the history is complete
pub complete_at_end : (p : Program) (c : Configuration) → IsLimited p → IsOrderly p c → ((t : ℕ) → phase_of c t ≡ Ended) → IsComplete p c.history
complete_at_end p c limits o ended = record {
  lawful = o.lawful;
  ended = λ t. elim (cases_lt t (length p.threads)) [
    | inl l ↦ (
        let fits : Fits Ended (is_due p c.history t) (has_ended p c.history t) (inhibits_in p c t) =
        subst (λ (ph : Phase). Fits ph (is_due p c.history t) (has_ended p c.history t) (inhibits_in p c t)) (ended t) (o.fits t l) in
        sym (over_is p (replay p c.history) t) ∙ fits.0)
    | inr past ↦ ap (λ (th : Thread). th.ended) (get_or_past (replay p c.history).threads t (ended_thread fresh_thread) (let same = well.threads_length in omega arith))
  ];
}
  where
    well : IsWellFormed p (replay p c.history)
    well = history-kept p c.history limits o.lawful

pub named-append : (p : Program) (ts us : List ℕ) → AreThreads p ts → AreThreads p us → AreThreads p (ts ++ us)
named-append p [] us first second = second
named-append p (t ∷ ts) us first second = (first.0, named-append p ts us first.1 second)

pub rounds_named : (p : Program) (k : ℕ) → AreThreads p (rounds_of (length p.threads) k)
rounds_named p zero = tt
rounds_named p (suc k) = named-append p (rounds_of (length p.threads) k) (range_with_len 0 (length p.threads)) (rounds_named p k) (range_named p 0 (length p.threads) (omega arith))

pub all_named : (p : Program) (ts : List ℕ) → All (λ t. t < length p.threads) ts → AreThreads p ts
all_named p ts named = recursion_from_All _ ts named

pub run_complete : (p : Program) (lines : List ReplayLine) (h : List Event) → IsLimited p → All (λ t. t < length p.threads) p.schedule → IsRun p lines h → IsComplete p h
run_complete p lines h limits named run =
    let o = turns_orderly p (p.schedule ++ rounds_of (length p.threads) run.rounds) (machine_start p) run.last lines limits (start_orderly p)
    (named-append p p.schedule (rounds_of (length p.threads) run.rounds) (all_named p p.schedule named) (rounds_named p run.rounds)) run.turns in
    subst (λ (x : List Event). IsComplete p x) run.history (complete_at_end p run.last limits o run.ended)

pub many_orderly : (p : Program) (ts : List ℕ) (new : Configuration) (lines : List ReplayLine) → IsLimited p → All (λ t. t < length p.threads) ts →
    AreTurns p ts (machine_start p) lines new → IsOrderly p new
many_orderly p ts new lines limits named turns = turns_orderly p ts (machine_start p) new lines limits (start_orderly p) (all_named p ts named) turns

pub many_never_rise : (p : Program) (ts : List ℕ) (old new : Configuration) (lines : List ReplayLine) → IsLimited p → IsOrderly p old → All (λ t. t < length p.threads) ts →
    AreTurns p ts old lines new → measure p new ≤ measure p old
many_never_rise p ts old new lines limits o named turns = turns_never_rise p ts old new lines limits o (all_named p ts named) turns
