-- A valid program makes at most 20,000 objects, since no thread does more than its script.
use Rattle.std.proofs.Common.{◌≡◌, ℕ, ◌+◌, ◌<◌, ◌≤◌, List, [], length, map, true, inl, inr, refl, sym, ◌∙◌, subst, ap, arith, get_or}
use Rattle.std.proofs.lemmas.Bool.{cases_lt, cases_eq, false≢true}
use Rattle.std.proofs.lemmas.List.{length-map, get_or-map, get_or_past}
use Rattle.std.specs.List.{range_with_len, sum_by}
use Rattle.heap_terms.specs.declared.commands.Command.{Command}
use Rattle.heap_terms.specs.declared.events.Event.{Event}
use Rattle.heap_terms.specs.declared.events.Event.TheVariants.{Did, Opened, Collected, Ended}
use Rattle.heap_terms.specs.declared.programs.Program.{Program}
use Rattle.heap_terms.specs.declared.limits.TheConstants.{MOST_COMMANDS}
use Rattle.heap_terms.specs.Heap.{NamedHeap, Thread, start, thread_at, fresh_thread, ended_thread}
use Rattle.heap_terms.specs.Histories.{IsNext, after, Lawful, replay, script_of, thread_of}
use Rattle.heap_terms.specs.Valid.{IsValid}
use Rattle.heap_laws.specs.Limited.{IsLimited}
use Rattle.heap_laws.proofs.Programs.Limits.{limited}
use Rattle.heap_terms.specs.WellFormed.{IsWellFormed}
use Rattle.heap_laws.proofs.Events.Appending.{kept_by_events}
use Rattle.heap_laws.proofs.Events.Causes.{alive_thread}
use Rattle.heap_laws.proofs.Events.OwnThread.{HasMoved, moves, commands_in}
use Rattle.heap_laws.proofs.WellFormed.Replayed.{event-kept}
use Rattle.heap_laws.proofs.Lists.Sums.{sum_le, sum_change, sum_places}
use Rattle.heap_laws.proofs.WellFormed.Threads.{start-well_formed}

-- the threads at the start
pub start_thread_is : (p : Program) (t : ℕ) → t < length p.threads → thread_at (start p) t ≡ fresh_thread
unfolding start
start_thread_is p t l = get_or-map (λ _. fresh_thread) p.threads t [] (ended_thread fresh_thread) l

pub start_done : (p : Program) (t : ℕ) → (thread_at (start p) t).done ≡ 0
unfolding start
start_done p t = elim (cases_lt t (length p.threads)) [
  | inl l ↦ ap (λ (th : Thread). th.done) (get_or-map (λ _. fresh_thread) p.threads t [] (ended_thread fresh_thread) l)
  | inr l ↦ (
      let past : length (map (λ _. fresh_thread) p.threads) ≤ t = omega (arith, length-map p.threads (λ _. fresh_thread)) in
      ap (λ (th : Thread). th.done) (get_or_past (map (λ _. fresh_thread) p.threads) t (ended_thread fresh_thread) past))
]

-- A well-formed heap whose threads have done no more than their scripts, and whose ended threads no less, and
-- which has no more objects than commands were done.
pub record IsCounted (p : Program) (a : NamedHeap) : Type 0 where
  pub formed : IsWellFormed p a
  pub within : (t : ℕ) → (thread_at a t).done ≤ length (script_of p t)
  pub over : (t : ℕ) → t < length p.threads → (thread_at a t).ended ≡ true → length (script_of p t) ≤ (thread_at a t).done
  pub few : length a.objects ≤ sum_by (λ t. (thread_at a t).done) (range_with_len 0 (length p.threads))

pub start_empty : (p : Program) → length (start p).objects ≡ 0
unfolding start
start_empty p = refl

pub start-counted : (p : Program) → IsCounted p (start p)
start-counted p = record {
  formed = start-well_formed p;
  within = λ t. rw (start_done p t) (omega arith);
  over = λ t l e. absurd (false≢true (ap (λ (th : Thread). th.ended) (sym (start_thread_is p t l)) ∙ e));
  few = (let empty = start_empty p in omega arith);
}

-- an event is at most one command
few_in : (e : Event) → commands_in e ≤ 1
few_in (Did t c answer) = omega arith
few_in (Opened t ty first k) = omega arith
few_in (Collected t last passes) = omega arith
few_in (Ended t) = omega arith

pub moved-counted : (p : Program) (a b : NamedHeap) (event : Event) → IsCounted p a → IsWellFormed p b → thread_of event < length p.threads →
    HasMoved p a b event → IsCounted p b
moved-counted p a b event h w l m =
    let t = thread_of event in
    let n = commands_in event in
    let one = few_in event in
    record {
      formed = w;
      within = λ u. elim (cases_eq u t) [
        | inl same ↦ subst (λ (x : ℕ). (thread_at b x).done ≤ length (script_of p x)) (sym same)
            (let done = m.done in let before = h.within t in elim (cases_lt 0 n) [
              | inl some ↦ (let below = m.within some in omega arith)
              | inr none ↦ omega arith
            ])
        | inr other ↦ rw (m.others u other).done (h.within u)
      ];
      over = λ u lu e. elim (cases_eq u t) [
        | inl same ↦ subst (λ (x : ℕ). length (script_of p x) ≤ (thread_at b x).done) (sym same)
            (let done = m.done in
            let ended : (thread_at b t).ended ≡ true = subst (λ (x : ℕ). (thread_at b x).ended ≡ true) same e in
            let over = m.over (sym m.ended ∙ ended) in omega arith)
        | inr other ↦ rw (m.others u other).done (h.over u lu (sym (m.others u other).ended ∙ e))
      ];
      few = (
          let f : ℕ → ℕ = λ u. (thread_at a u).done in
          let g : ℕ → ℕ = λ u. (thread_at b u).done in
          let change : sum_by g (range_with_len 0 (length p.threads)) + f t ≡ sum_by f (range_with_len 0 (length p.threads)) + g t =
          sum_change f g t 0 (length p.threads) (omega arith) (omega arith) (λ u other. (m.others u other).done) in
          let done = m.done in
          let objects = m.objects in
          let few = h.few in
          omega arith);
    }

-- the thread of an event is one of the program's
pub event_thread : (p : Program) (a : NamedHeap) (e : Event) → IsLimited p → IsWellFormed p a → IsNext p a e → thread_of e < length p.threads
event_thread p a e limits w next =
    let l = alive_thread a (thread_of e) (moves p a e limits w next).alive in
    let same = w.threads_length in omega arith

pub after-counted : (p : Program) → IsLimited p → (a : NamedHeap) (e : Event) → IsNext p a e → IsCounted p a → IsCounted p (after p a e)
after-counted p limits a e next h =
    moved-counted p a (after p a e) e h (event-kept p limits a e next h.formed) (event_thread p a e limits h.formed next) (moves p a e limits h.formed next)

pub replay-counted : (p : Program) (h : List Event) → IsLimited p → Lawful p h → IsCounted p (replay p h)
replay-counted p h limits lawful = kept_by_events p (λ a. IsCounted p a) (after-counted p limits) (start p) h (start-counted p) lawful

-- no more objects than the commands of all scripts
counted_within : (p : Program) (a : NamedHeap) → IsCounted p a → length a.objects ≤ sum_by length p.threads
counted_within p a h =
    let few = h.few in
    let scripts = sum_places (λ (cs : List Command). length cs) p.threads [] in
    let all : sum_by (λ t. (thread_at a t).done) (range_with_len 0 (length p.threads)) ≤ sum_by (λ t. length (get_or p.threads t [])) (range_with_len 0 (length p.threads)) =
    sum_le (λ t. (thread_at a t).done) (λ t. length (get_or p.threads t [])) 0 (length p.threads) (λ u low high. h.within u) in
    omega arith

pub counted_few : (p : Program) (a : NamedHeap) → IsValid p → IsCounted p a → length a.objects ≤ MOST_COMMANDS
counted_few p a valid h = (let most = valid.commands_most in let within = counted_within p a h in omega arith)

pub commits_within : (p : Program) (h : List Event) → IsValid p → Lawful p h → length (replay p h).objects ≤ sum_by length p.threads
commits_within p h valid lawful = counted_within p (replay p h) (replay-counted p h (limited p valid) lawful)

pub commits_few : (p : Program) (h : List Event) → IsValid p → Lawful p h → length (replay p h).objects ≤ MOST_COMMANDS
commits_few p h valid lawful = counted_few p (replay p h) valid (replay-counted p h (limited p valid) lawful)
