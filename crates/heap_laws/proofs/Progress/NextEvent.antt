-- While some thread has not ended some event may come next.
use Rattle.std.proofs.Common.{◌≡◌, ◌≢◌, ℕ, zero, suc, ◌+◌, ◌<◌, ◌≤◌, List, length, Option, Some, None, Bool, true, false, ◌⊎◌, inl, inr, refl, sym, ◌∙◌, subst, ap, arith}
use Rattle.std.proofs.lemmas.Bool.{cases_lt, cases_eq, cases_Bool, ne_eqb, false_from_ne_true, false≢true}
use Rattle.std.proofs.lemmas.List.{get_or_past}
use Rattle.std.specs.Prelude.{if◌then◌else◌}
use Rattle.heap_terms.specs.declared.answers.Answer.{Answer}
use Rattle.heap_terms.specs.declared.answers.Answer.TheVariants as answers
use Rattle.heap_terms.specs.declared.commands.Command.{Command}
use Rattle.heap_terms.specs.declared.events.Event.{Event}
use Rattle.heap_terms.specs.declared.events.Event.TheVariants.{Did, Opened, Collected, Ended}
use Rattle.heap_terms.specs.declared.events.PassRecord.{PassRecord}
use Rattle.heap_terms.specs.declared.kinds.Kind.{Kind}
use Rattle.heap_terms.specs.declared.pages.Entry.{Entry}
use Rattle.heap_terms.specs.declared.pages.Next.{Next}
use Rattle.heap_terms.specs.declared.pages.Next.TheVariants as nexts
use Rattle.heap_terms.specs.declared.programs.Program.{Program}
use Rattle.heap_terms.specs.Collections.{IsCollection}
use Rattle.heap_terms.specs.Heap.{NamedHeap, Thread, thread_at, entry_at, ended_thread, fresh_thread}
use Rattle.heap_terms.specs.Histories.{IsNext, IsAnswer, IsOpening, command_at, wish_at, thread_of, next, next_for, next_command, due}
use Rattle.heap_terms.specs.Layout.{page_type_of, size_of}
use Rattle.heap_terms.specs.Regions.{Wish, Nothing, Make, wish_of, has_room, pages_needed, is_free, IsFreeRun, IsLowestRun, HasNoRun, place_for}
use Rattle.heap_terms.specs.Outcomes.{outcome_of}
use Rattle.heap_terms.specs.WellFormed.{IsWellFormed}
use Rattle.pass_laws.proofs.Collecting.{collection_exists}
use Rattle.heap_laws.proofs.Events.Tasks.{next_free-is}

-- whether the k pages from `first` on are free
pub free_or_not : (pages : List Entry) (first k : ℕ) →
    ((i : ℕ) → first ≤ i → i < first + k → is_free (entry_at pages i) ≡ true) ⊎ ((i : ℕ) × (first ≤ i) × (i < first + k) × (is_free (entry_at pages i) ≡ false))
free_or_not pages first zero = inl (λ i low high. absurd (omega arith))
free_or_not pages first (suc k) = elim (free_or_not pages first k) [
  | inr taken ↦ inr (taken.0, taken.1, (let l = taken.2 in omega arith), taken.3)
  | inl free ↦ elim (cases_Bool (is_free (entry_at pages (first + k)))) [
    | inr taken ↦ inr (first + k, omega arith, omega arith, taken)
    | inl last ↦ inl (λ i low high. elim (cases_eq i (first + k)) [
      | inl same ↦ subst (λ (x : ℕ). is_free (entry_at pages x) ≡ true) (sym same) last
      | inr other ↦ free i low (omega arith)
    ])
  ]
]

pub run_or_not : (pages : List Entry) (first k : ℕ) → IsFreeRun pages first k ⊎ ¬ IsFreeRun pages first k
run_or_not pages first k = elim (cases_lt (length pages) (first + k)) [
  | inl past ↦ inr (λ run. let inside = run.inside in omega arith)
  | inr inside ↦ elim (free_or_not pages first k) [
    | inl free ↦ inl (record { inside = inside; free = free })
    | inr taken ↦ inr (λ run. false≢true (sym taken.3 ∙ run.free taken.0 taken.1 taken.2))
  ]
]

-- the lowest run, or none below n
pub lowest_below : (pages : List Entry) (k n : ℕ) → ((first : ℕ) × IsLowestRun pages first k) ⊎ ((lower : ℕ) → lower < n → ¬ IsFreeRun pages lower k)
lowest_below pages k zero = inr (λ lower l run. absurd (omega arith))
lowest_below pages k (suc n) = elim (lowest_below pages k n) [
  | inl found ↦ inl found
  | inr none ↦ elim (run_or_not pages n k) [
    | inl run ↦ inl (n, record { run = run; lowest = none })
    | inr here ↦ inr (λ lower l run. elim (cases_eq lower n) [
      | inl same ↦ here (subst (λ (x : ℕ). IsFreeRun pages x k) same run)
      | inr other ↦ none lower (omega arith) run
    ])
  ]
]

-- there is a lowest run, or none
pub lowest_or_none : (pages : List Entry) (k : ℕ) → ((first : ℕ) × IsLowestRun pages first k) ⊎ HasNoRun pages k
lowest_or_none pages k = elim (lowest_below pages k (length pages + 1)) [
  | inl found ↦ inl found
  | inr none ↦ inr (λ first run. let inside = run.inside in none first (omega arith) run)
]

-- an event of thread t may come next
abbrev pub HasNext : Program → NamedHeap → ℕ → Type 0
HasNext p a t = (e : Event) × (thread_of e ≡ t) × IsNext p a e

pub did_next : (p : Program) (a : NamedHeap) (t : ℕ) (c : Command) (answer : Answer) (n : Next) → command_at p a t ≡ Some c → next p a t ≡ n →
    IsAnswer a t c answer n → IsNext p a (Did t c answer)
unfolding IsNext
did_next p a t c answer n command is answered = (command, rw is answered)

pub opened_next : (p : Program) (a : NamedHeap) (t : ℕ) (c : Command) (kind : Kind) (n seed first : ℕ) → command_at p a t ≡ Some c → next p a t ≡ nexts.Open →
    wish_of c ≡ Make kind n seed → IsLowestRun a.pages first (pages_needed (size_of kind n)) →
    IsNext p a (Opened t (page_type_of kind) first (pages_needed (size_of kind n)))
unfolding IsNext
opened_next p a t c kind n seed first command is wish lowest =
    let w : wish_at (command_at p a t) ≡ Make kind n seed = ap (λ (o : Option Command). wish_at o) command ∙ wish in
    (is, subst (λ (x : Wish). IsOpening a x (page_type_of kind) first (pages_needed (size_of kind n))) (sym w) (refl, refl, lowest))

pub ended_next : (p : Program) (a : NamedHeap) (t : ℕ) → next p a t ≡ nexts.End → IsNext p a (Ended t)
unfolding IsNext
ended_next p a t is = is

wish_next : (p : Program) (a : NamedHeap) (t : ℕ) (c : Command) (w : Wish) → command_at p a t ≡ Some c → wish_of c ≡ w → next p a t ≡ next_for a t w → HasNext p a t
wish_next p a t c Nothing command wish is =
    let answer = (outcome_of a t c).answer in
    (Did t c answer, refl, did_next p a t c answer nexts.Simple command is refl)
wish_next p a t c (Make kind n seed) command wish is = elim (cases_Bool (has_room a t kind (size_of kind n))) [
  | inl room ↦ (
      let builds : next p a t ≡ nexts.Build kind n seed = is ∙ ap (λ (b : Bool). if b then nexts.Build kind n seed else nexts.Open) room in
      let answer = answers.Placed (length a.objects) (place_for a t kind (size_of kind n)) in
      (Did t c answer, refl, did_next p a t c answer (nexts.Build kind n seed) command builds refl))
  | inr full ↦ (
      let opens : next p a t ≡ nexts.Open = is ∙ ap (λ (b : Bool). if b then nexts.Build kind n seed else nexts.Open) full in
      elim (lowest_or_none a.pages (pages_needed (size_of kind n))) [
        | inl found ↦ (
          Opened t (page_type_of kind) found.0 (pages_needed (size_of kind n)),
          refl,
          opened_next p a t c kind n seed found.0 command opens wish found.1,
        )
        | inr none ↦ (
            let answer = (outcome_of a t c).answer in
            (Did t c answer, refl, did_next p a t c answer nexts.Open command opens (refl, rw wish none)))
      ])
]

command_next : (p : Program) (a : NamedHeap) (t : ℕ) (o : Option Command) → command_at p a t ≡ o → next p a t ≡ next_command a t o → HasNext p a t
command_next p a t None command is = (Ended t, refl, ended_next p a t is)
command_next p a t (Some c) command is = wish_next p a t c (wish_of c) command refl is

-- each thread that has not ended, and for which no collection is due
pub free_next : (p : Program) (a : NamedHeap) (t : ℕ) → (thread_at a t).ended ≡ false → due (thread_at a t) ≡ None → HasNext p a t
free_next p a t alive free = command_next p a t (command_at p a t) refl (next_free-is p a t free alive)

-- a thread that inhibits, below a number, or none
inhibits_below : (a : NamedHeap) (n : ℕ) → ((t : ℕ) × ((thread_at a t).inhibits ≢ 0)) ⊎ ((t : ℕ) → t < n → (thread_at a t).inhibits ≡ 0)
inhibits_below a zero = inr (λ t l. absurd (omega arith))
inhibits_below a (suc n) = elim (inhibits_below a n) [
  | inl found ↦ inl found
  | inr none ↦ elim (cases_eq (thread_at a n).inhibits 0) [
    | inr here ↦ inl (n, here)
    | inl free ↦ inr (λ t l. elim (cases_eq t n) [
      | inl same ↦ subst (λ (x : ℕ). (thread_at a x).inhibits ≡ 0) (sym same) free
      | inr other ↦ none t (omega arith)
    ])
  ]
]

-- a thread that inhibits, or nobody does
inhibits_or_none : (a : NamedHeap) → ((t : ℕ) × ((thread_at a t).inhibits ≢ 0)) ⊎ ((t : ℕ) → (thread_at a t).inhibits ≡ 0)
inhibits_or_none a = elim (inhibits_below a (length a.threads)) [
  | inl found ↦ inl found
  | inr none ↦ inr (λ t. elim (cases_lt t (length a.threads)) [
    | inl l ↦ none t l
    | inr past ↦ ap (λ (th : Thread). th.inhibits) (get_or_past a.threads t (ended_thread fresh_thread) past)
  ])
]

-- a thread that inhibits has not ended, and for it no collection is due
inhibits_alive : (p : Program) (a : NamedHeap) (t : ℕ) → IsWellFormed p a → (thread_at a t).inhibits ≢ 0 → (thread_at a t).ended ≡ false
inhibits_alive p a t w inhibits = elim (cases_lt t (length p.threads)) [
  | inl l ↦ false_from_ne_true (thread_at a t).ended (λ ended. inhibits ((w.threads t l).inhibits ended))
  | inr past ↦ absurd (inhibits (ap (λ (th : Thread). th.inhibits) (get_or_past a.threads t (ended_thread fresh_thread) (omega (arith, w.threads_length)))))
]

inhibits_free : (th : Thread) → th.inhibits ≢ 0 → due th ≡ None
inhibits_free th inhibits = rw (ne_eqb th.inhibits 0 inhibits) refl

-- what is due comes next
next_due : (p : Program) (a : NamedHeap) (t last : ℕ) → (thread_at a t).ended ≡ false → due (thread_at a t) ≡ Some last → next p a t ≡ nexts.Collect last
unfolding next
next_due p a t last alive owed = rw (alive, owed) refl

collected_next : (p : Program) (a : NamedHeap) (t last : ℕ) (passes : List PassRecord) → next p a t ≡ nexts.Collect last → IsCollection a last passes →
    IsNext p a (Collected t last passes)
unfolding IsNext
collected_next p a t last passes is collection = (is, collection)

-- While some thread has not ended some event may come next: a collection that is due waits only for threads that inhibit,
-- and those go on.
pub someone_next : (p : Program) (a : NamedHeap) (t : ℕ) → IsWellFormed p a → (thread_at a t).ended ≡ false → (e : Event) × IsNext p a e
someone_next p a t w alive = by_due (due (thread_at a t)) refl
  where
    by_due : (o : Option ℕ) → due (thread_at a t) ≡ o → (e : Event) × IsNext p a e
    by_due None free = let found = free_next p a t alive free in (found.0, found.2)
    by_due (Some last) owed = elim (inhibits_or_none a) [
      | inl found ↦ (let goes = free_next p a found.0 (inhibits_alive p a found.0 w found.1) (inhibits_free (thread_at a found.0) found.1) in (goes.0, goes.2))
      | inr allowed ↦ (
          let passes = collection_exists p a last w allowed in
          (Collected t last passes.0, collected_next p a t last passes.0 (next_due p a t last alive owed) passes.1))
    ]
