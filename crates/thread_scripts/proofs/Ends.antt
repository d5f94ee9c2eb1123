-- The end of a run, and what a thread that may go on does.
use Rattle.std.proofs.Common.{◌≡◌, ◌≢◌, ℕ, ◌+◌, ◌-◌, ◌<◌, ◌≤◌, ◌^◌, List, [], ◌∷◌, ◌++◌, length, Bool, true, false, inl, inr, refl, sym, ◌∙◌, ap, subst, arith}
use Rattle.std.proofs.lemmas.Bool.{cases_eq, cases_lt, cases_Bool, eqb-true, not-false, false≢true}
use Rattle.std.proofs.lemmas.List.{get_or_past, length_push}
use Rattle.std.specs.Prelude.{◌==◌, not, if◌then◌else◌, is_some}
use Rattle.heap_terms.specs.declared.events.Event.{Event}
use Rattle.heap_terms.specs.declared.pages.Next.{Next}
use Rattle.heap_terms.specs.declared.pages.Next.TheVariants as nexts
use Rattle.heap_terms.specs.declared.programs.Program.{Program}
use Rattle.heap_terms.specs.Complete.{IsComplete}
use Rattle.heap_terms.specs.Heap.{NamedHeap, Thread, thread_at, ended_thread, fresh_thread}
use Rattle.heap_terms.specs.Histories.{Lawful, due}
use Rattle.heap_terms.specs.Phases.{collects, is_over}
use Rattle.heap_terms.specs.Valid.{IsValid}
use Rattle.heap_terms.specs.WellFormed.{IsWellFormed}
use Rattle.heap_laws.proofs.NextEvents.{history_few}
use Rattle.heap_turns.specs.Turns.{MayGo, NoneInhibits}
use Rattle.lisp_heap.specs.Events.{Happens}
use Rattle.lisp_heap.specs.View.{View, heap_of, next_of}
use Rattle.machine_laws.proofs.EventFacts.{due_is, over_is}
use Rattle.thread_scripts.specs.Finished.{AllDone, NoneOut}
use Rattle.thread_scripts.proofs.ClosedThreads.{ended_closed}

-- a thread with nothing left to do has ended
pub done_ended : (w : View) (t : ℕ) → next_of w t ≡ nexts.Done → (thread_at (heap_of w) t).ended ≡ true
done_ended w t done = sym (over_is w.program (heap_of w) t) ∙ ap is_over done

over_done : (n : Next) → is_over n ≡ true → n ≡ nexts.Done
over_done nexts.Simple e = absurd (false≢true e)
over_done nexts.Open e = absurd (false≢true e)
over_done (nexts.Build kind n seed) e = absurd (false≢true e)
over_done (nexts.Collect last) e = absurd (false≢true e)
over_done nexts.End e = absurd (false≢true e)
over_done nexts.Done e = refl

-- where each of the threads has ended nothing is left to do
pub all_done : (w : View) → IsWellFormed w.program (heap_of w) → ((t : ℕ) → t < length w.program.threads → (thread_at (heap_of w) t).ended ≡ true) → AllDone w
all_done w wf ended t = over_done (next_of w t) (over_is w.program (heap_of w) t ∙ elim (cases_lt t (length w.program.threads)) [
  | inl l ↦ ended t l
  | inr past ↦ ap (λ (th : Thread). th.ended) (get_or_past (heap_of w).threads t (ended_thread fresh_thread) (let same = wf.threads_length in omega arith))
])

-- and then the history is complete, and no region is out
pub complete_of : (p : Program) (w : View) → w.program ≡ p → Lawful w.program w.history → AllDone w → IsComplete p w.history
complete_of p w same lawful done =
    subst (λ (q : Program). IsComplete q w.history) same (record { lawful = lawful; ended = λ t. done_ended w t (done t) })

pub none_out : (w : View) → IsValid w.program → Lawful w.program w.history → AllDone w → NoneOut w
none_out w valid lawful done t = ended_closed w.program w.history valid lawful t (done_ended w t (done t))

-- a thread that inhibits may go on, and does not collect
pub inhibiting_goes : (w : View) (t : ℕ) → IsWellFormed w.program (heap_of w) → t < length w.program.threads → not ((thread_at (heap_of w) t).inhibits == 0) ≡ true → MayGo w t
inhibiting_goes w t wf l inhibits = record {
  thread = l;
  alive = over_is w.program (heap_of w) t ∙ living;
  allowed = λ due. absurd (false≢true (sym (due_is w.program (heap_of w) t ∙ none (thread_at (heap_of w) t).ended) ∙ due));
}
  where
    no_count : ((thread_at (heap_of w) t).inhibits == 0) ≡ false
    no_count = elim (cases_Bool ((thread_at (heap_of w) t).inhibits == 0)) [
      | inl none_left ↦ absurd (false≢true (sym (ap not none_left) ∙ inhibits))
      | inr other ↦ other
    ]

    none : (d : Bool) → (if d then false else is_some (due (thread_at (heap_of w) t))) ≡ false
    none true = refl
    none false = rw no_count refl

    living : (thread_at (heap_of w) t).ended ≡ false
    living = elim (cases_Bool (thread_at (heap_of w) t).ended) [
      | inl ended ↦ absurd (false≢true (sym no_count ∙ ap (λ (n : ℕ). n == 0) ((wf.threads t l).inhibits ended)))
      | inr alive ↦ alive
    ]

-- a number that is not above 0
pub not_above : (n : ℕ) → not (n == 0) ≡ false → n ≡ 0
not_above n e = eqb-true n 0 (not-false (n == 0) e)

-- where none of the threads inhibits nobody does
pub none_inhibits : (w : View) → IsWellFormed w.program (heap_of w) → ((t : ℕ) → t < length w.program.threads → (thread_at (heap_of w) t).inhibits ≡ 0) → NoneInhibits w
none_inhibits w wf allowed t = elim (cases_lt t (length w.program.threads)) [
  | inl l ↦ allowed t l
  | inr past ↦ ap (λ (th : Thread). th.inhibits) (get_or_past (heap_of w).threads t (ended_thread fresh_thread) (let same = wf.threads_length in omega arith))
]

-- a thread that has not ended may go on while nobody inhibits
pub alive_goes : (w : View) (t : ℕ) → t < length w.program.threads → (thread_at (heap_of w) t).ended ≡ false → NoneInhibits w → MayGo w t
alive_goes w t l alive allowed = record { thread = l; alive = over_is w.program (heap_of w) t ∙ alive; allowed = λ due. allowed }

-- what holds below a number and at it holds below the next
pub below_next : (P : ℕ → Type 0) (t u : ℕ) → ((k : ℕ) → k < t → P k) → P t → u < t + 1 → P u
below_next P t u before own l = elim (cases_eq u t) [
  | inl same ↦ subst P (sym same) own
  | inr other ↦ before u (omega arith)
]

-- an event more leaves room for fewer
pub fewer : (old new : View) (t : ℕ) → IsValid old.program → Lawful old.program old.history → Happens t old new → 2 ^ 32 - length new.history < 2 ^ 32 - length old.history
fewer old new t valid lawful h =
    let most = history_few old.program old.history valid lawful in
    let long : length new.history ≡ length old.history + 1 = ap (λ (es : List Event). length es) h.history ∙ length_push old.history h.event in
    omega arith

-- and one for which no collection is due may go on in any case
pub calm_goes : (w : View) (t : ℕ) → t < length w.program.threads → (thread_at (heap_of w) t).ended ≡ false → collects (next_of w t) ≡ false → MayGo w t
calm_goes w t l alive calm = record { thread = l; alive = over_is w.program (heap_of w) t ∙ alive; allowed = λ due. absurd (false≢true (sym calm ∙ due)) }
