-- Every lawful history can be completed.
use Rattle.std.proofs.Common.{◌≡◌, ℕ, zero, suc, ◌<◌, ◌≤◌, List, [], ◌∷◌, ◌++◌, length, true, false, ◌⊎◌, inl, inr, sym, ◌∙◌, subst, ap, arith}
use Rattle.std.proofs.lemmas.Bool.{cases_lt, cases_eq, cases_Bool, true_from_ne_false}
use Rattle.heap_terms.specs.declared.events.Event.{Event}
use Rattle.heap_terms.specs.declared.programs.Program.{Program}
use Rattle.heap_terms.specs.Complete.{IsComplete}
use Rattle.heap_terms.specs.Heap.{NamedHeap, start, thread_at}
use Rattle.heap_terms.specs.Histories.{after, Lawful, LawfulFrom, replay, replay_from}
use Rattle.heap_laws.specs.Remaining.{all_left}
use Rattle.heap_laws.specs.Limited.{IsLimited}
use Rattle.heap_terms.specs.WellFormed.{IsWellFormed}
use Rattle.heap_laws.proofs.Events.Appending.{LawfulFrom-append, replay_from-append}
use Rattle.heap_laws.proofs.Termination.EventsLeft.{all_left_falls}
use Rattle.heap_laws.proofs.Progress.NextEvent.{someone_next}
use Rattle.heap_laws.proofs.Events.Causes.{alive_thread}
use Rattle.heap_laws.proofs.WellFormed.Replayed.{event-kept, history-kept}

pub alive_below : (a : NamedHeap) (n : ℕ) → ((t : ℕ) × ((thread_at a t).ended ≡ false)) ⊎ ((t : ℕ) → t < n → (thread_at a t).ended ≡ true)
alive_below a zero = inr (λ t l. absurd (omega arith))
alive_below a (suc n) = elim (alive_below a n) [
  | inl found ↦ inl found
  | inr none ↦ elim (cases_Bool (thread_at a n).ended) [
    | inr alive ↦ inl (n, alive)
    | inl ended ↦ inr (λ t l. elim (cases_eq t n) [
      | inl same ↦ subst (λ (x : ℕ). (thread_at a x).ended ≡ true) (sym same) ended
      | inr other ↦ none t (omega arith)
    ])
  ]
]

-- a thread that has not ended, or all have
pub alive_or_all : (a : NamedHeap) → ((t : ℕ) × ((thread_at a t).ended ≡ false)) ⊎ ((t : ℕ) → (thread_at a t).ended ≡ true)
alive_or_all a = elim (alive_below a (length a.threads)) [
  | inl found ↦ inl found
  | inr none ↦ inr (λ t. elim (cases_lt t (length a.threads)) [
    | inl l ↦ none t l
    | inr l ↦ true_from_ne_false (thread_at a t).ended (λ alive. let m = alive_thread a t alive in omega arith)
  ])
]

-- the events that complete a history, by what is left
pub completed_within : (p : Program) (n : ℕ) (a : NamedHeap) → IsLimited p → IsWellFormed p a → all_left p a ≤ n →
    (h : List Event) × LawfulFrom p a h × ((t : ℕ) → (thread_at (replay_from p a h) t).ended ≡ true)
completed_within p zero a limits w most = elim (alive_or_all a) [
  | inr all ↦ ([], tt, all)
  | inl found ↦ (
      let e = someone_next p a found.0 w found.1 in
      let falls = all_left_falls p a e.0 limits w e.1 in
      absurd (omega arith))
]
completed_within p (suc n) a limits w most = elim (alive_or_all a) [
  | inr all ↦ ([], tt, all)
  | inl found ↦ (
      let e = someone_next p a found.0 w found.1 in
      let falls = all_left_falls p a e.0 limits w e.1 in
      let rest = completed_within p n (after p a e.0) limits (event-kept p limits a e.0 e.1 w) (omega arith) in
      (e.0 ∷ rest.0, (e.1, rest.1), rest.2))
]

-- every lawful history of a program within the limits is the beginning of a complete one
pub completed : (p : Program) (h : List Event) → IsLimited p → Lawful p h → (more : List Event) × IsComplete p (h ++ more)
completed p h limits lawful =
    let rest = completed_within p (all_left p (replay p h)) (replay p h) limits (history-kept p h limits lawful) (omega arith) in
    let same : replay p (h ++ rest.0) ≡ replay_from p (replay p h) rest.0 = replay_from-append p (start p) h rest.0 in (
      rest.0,
      record {
        lawful = LawfulFrom-append p (start p) h rest.0 lawful rest.1;
        ended = λ t. ap (λ (a : NamedHeap). (thread_at a t).ended) same ∙ rest.2 t;
      },
    )
