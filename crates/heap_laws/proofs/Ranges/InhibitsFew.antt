-- A thread inhibits collections no more often than it has done commands.
use Rattle.std.proofs.Common.{◌≡◌, ◌≢◌, ℕ, ◌+◌, ◌≤◌, ◌<◌, List, length, inl, inr, ◌∙◌, ap, arith}
use Rattle.std.proofs.lemmas.Bool.{cases_eq}
use Rattle.heap_terms.specs.declared.events.Event.{Event}
use Rattle.heap_terms.specs.declared.events.PassRecord.{PassRecord}
use Rattle.heap_terms.specs.declared.kinds.PageType.{PageType}
use Rattle.heap_terms.specs.declared.programs.Program.{Program}
use Rattle.heap_terms.specs.Collections.{collected}
use Rattle.heap_terms.specs.Heap.{NamedHeap, Thread, start, thread_at, with_thread, ended_thread}
use Rattle.heap_terms.specs.Histories.{IsNext, after, advance, Lawful, replay}
use Rattle.heap_terms.specs.Outcomes.{outcome_of}
use Rattle.heap_terms.specs.Regions.{committed, opened}
use Rattle.heap_terms.specs.Valid.{IsValid}
use Rattle.heap_terms.specs.WellFormed.{IsWellFormed}
use Rattle.heap_laws.proofs.Events.Appending.{kept_by_events}
use Rattle.heap_laws.proofs.Events.Causes.{by_events, alive_thread}
use Rattle.heap_laws.proofs.Events.CollectedThreads.{collected_threads}
use Rattle.heap_laws.proofs.Events.OwnThread.{built_heap}
use Rattle.heap_laws.proofs.Events.Tasks.{outcome-board}
use Rattle.heap_laws.proofs.Programs.ScriptCommands.{script_thread, script_command}
use Rattle.heap_laws.proofs.WellFormed.RegionOpened.{opens_run, thread_with_run}
use Rattle.heap_laws.proofs.WellFormed.Replayed.{after-well_formed}
use Rattle.heap_laws.proofs.WellFormed.Threads.{start-well_formed, start_thread, thread_cases, changed_thread, other_thread}

abbrev pub InhibitsFew : Thread → Type 0
InhibitsFew th = th.inhibits ≤ th.done

-- each thread does so
abbrev pub InhibitFew : NamedHeap → Type 0
InhibitFew a = (u : ℕ) → InhibitsFew (thread_at a u)

-- a thread that changes
kept_at : (a : NamedHeap) (t : ℕ) (th : Thread) → InhibitFew a → InhibitsFew th → InhibitFew (with_thread a t th)
kept_at a t th h few = λ u. elim (thread_cases a t u th) [
  | inl e ↦ rw e (h u)
  | inr e ↦ rw e.2 few
]

-- a thread that went on after it inhibits once more at most
gone_on : (b : NamedHeap) (t : ℕ) → t < length b.threads → ((u : ℕ) → u ≢ t → InhibitsFew (thread_at b u)) → (thread_at b t).inhibits ≤ (thread_at b t).done + 1 →
    InhibitFew (advance b t)
gone_on b t l others own = λ u. elim (cases_eq u t) [
  | inl same ↦ (
      let now : thread_at (advance b t) u ≡ record (thread_at b t) { done = (thread_at b t).done + 1 } =
      ap (thread_at (advance b t)) same ∙ changed_thread b t (record (thread_at b t) { done = (thread_at b t).done + 1 }) l in
      rw now own)
  | inr other ↦ rw (other_thread b t u (record (thread_at b t) { done = (thread_at b t).done + 1 }) other) (others u other)
]

collected-few : (a : NamedHeap) (t last : ℕ) (passes : List PassRecord) → t < length a.threads → InhibitFew a → InhibitFew (collected a t last passes)
collected-few a t last passes l h = λ u.
    let c = collected_threads a t last passes in
    elim (cases_eq u t) [
      | inl same ↦ rw (ap (thread_at (collected a t last passes)) same ∙ c.own l) (h t)
      | inr other ↦ rw (c.others u other) (h u)
    ]

opened-few : (a : NamedHeap) (t : ℕ) (ty : PageType) (first k : ℕ) → InhibitFew a → InhibitFew (opened a t ty first k)
unfolding opened
opened-few a t ty first k h =
    let same = (opens_run (thread_at a t) ty first k).cells in
    kept_at a t (thread_with_run (thread_at a t) ty first k) h (omega (arith, same.inhibits, same.done, h t))

pub after-few : (p : Program) → IsValid p → (a : NamedHeap) (e : Event) → IsNext p a e → IsWellFormed p a → InhibitFew a → InhibitFew (after p a e)
after-few p valid a e next w h = by_events p a (λ e b. InhibitFew b)
    (λ t c answer d.
    let command = script_command p t (thread_at a t).done c valid d.command in
    let board = outcome-board p a t c w valid.pages_most (script_thread p t (thread_at a t).done c d.command) d.alive command.in_range in
    gone_on (outcome_of a t c).heap t (omega (arith, board.threads, alive_thread a t d.alive)) (λ u other. omega (arith, (board.others u other).inhibits, (board.others u other).done, h u)) (omega (arith, board.own.inhibits, board.own.done, h t)))
    (λ t c answer d. kept_at a t _ h (omega (arith, h t)))
    (λ t c answer kind n seed d.
    let built = built_heap p a t c kind n in
    gone_on (committed p a t c kind n) t (omega (arith, built.threads, alive_thread a t d.alive)) (λ u other. omega (arith, (built.others u other).inhibits, (built.others u other).done, h u)) (omega (arith, built.inhibits, built.done, h t)))
    (λ t ty first k d. opened-few a t ty first k h)
    (λ t last passes d. collected-few a t last passes (alive_thread a t d.alive) h)
    (λ t d. kept_at a t (ended_thread (thread_at a t)) h (omega arith))
    e next

pub start-few : (p : Program) → InhibitFew (start p)
start-few p t = let s = start_thread p t in rw s.2 (omega arith)

pub replay-few : (p : Program) (h : List Event) → IsValid p → Lawful p h → InhibitFew (replay p h)
replay-few p h valid lawful =
    (kept_by_events p (λ a. IsWellFormed p a × InhibitFew a)
    (λ a e next both. (after-well_formed p valid a e next both.0, after-few p valid a e next both.0 both.1))
    (start p) h (start-well_formed p, start-few p) lawful).1
