-- What the word machine needs of an event, in one record, and that every event has it.
use Rattle.std.proofs.Common.{◌≡◌, ◌≢◌, ℕ, ◌+◌, ◌≤◌, length, Option, Some, None, Bool, true, false, inl, inr, refl, sym, ◌∙◌, ap, arith}
use Rattle.std.proofs.lemmas.Bool.{cases_Bool, cases_lt, false≢true, ne_eqb}
use Rattle.std.proofs.lemmas.List.{get_or_past}
use Rattle.std.specs.Prelude.{if◌then◌else◌, ◌==◌, is_some}
use Rattle.heap_terms.specs.declared.answers.Answer.{Answer}
use Rattle.heap_terms.specs.declared.commands.Command.{Command}
use Rattle.heap_terms.specs.declared.events.Event.{Event}
use Rattle.heap_terms.specs.declared.events.Event.TheVariants.{Did, Opened, Collected, Ended}
use Rattle.heap_terms.specs.declared.pages.Next.{Next}
use Rattle.heap_terms.specs.declared.pages.Next.TheVariants as nexts
use Rattle.heap_terms.specs.declared.programs.Program.{Program}
use Rattle.heap_terms.specs.Collections.{collected}
use Rattle.heap_terms.specs.Heap.{NamedHeap, Thread, thread_at, ended_thread, fresh_thread}
use Rattle.heap_terms.specs.Histories.{IsNext, IsAnswer, after, thread_of, next, next_for, next_command, next_unless_due, due, command_at}
use Rattle.heap_terms.specs.Layout.{size_of}
use Rattle.heap_terms.specs.MachineTurns.{opens}
use Rattle.heap_terms.specs.Phases.{collects, is_over}
use Rattle.heap_terms.specs.Regions.{Wish, Nothing, Make, wish_of, has_room}
use Rattle.heap_terms.specs.WellFormed.{IsWellFormed}
use Rattle.heap_laws.specs.Limited.{IsLimited}
use Rattle.heap_laws.specs.Remaining.{all_left}
use Rattle.heap_laws.proofs.EventSteps.{opens_from, collects_from, others_left, is_collection, collected_threads, opened_builds, all_left_falls, event-kept, alive_thread}

-- another thread is in the state in which it was
pub record IsAsBefore (p : Program) (a b : NamedHeap) (u : ℕ) : Type 0 where
  pub due : collects (next p b u) ≡ collects (next p a u)
  pub over : is_over (next p b u) ≡ is_over (next p a u)
  pub inhibits : (thread_at b u).inhibits ≡ (thread_at a u).inhibits

-- A thread's section goes on where it opened a region or inhibits, and then no collection is due for it, nor has it
-- ended. A collection leaves it alive, and as it inhibited before. With each event there is less left.
pub record IsEventStep (p : Program) (a b : NamedHeap) (t : ℕ) (e : Event) : Type 0 where
  pub others : (u : ℕ) → u ≢ t → IsAsBefore p a b u
  pub opened : opens e ≡ true → (collects (next p b t) ≡ false) × (is_over (next p b t) ≡ false)
  pub inhibiting : (thread_at b t).inhibits ≢ 0 → (collects (next p b t) ≡ false) × (is_over (next p b t) ≡ false)
  pub collected : collects (next p a t) ≡ true → (is_over (next p b t) ≡ false) × ((thread_at b t).inhibits ≡ (thread_at a t).inhibits)
  pub falls : all_left p b + 1 ≤ all_left p a

-- what a thread does for a command is neither a collection nor nothing
for_wish : (a : NamedHeap) (t : ℕ) (w : Wish) → (collects (next_for a t w) ≡ false) × (is_over (next_for a t w) ≡ false)
for_wish a t Nothing = (refl, refl)
for_wish a t (Make kind n seed) = by_room (has_room a t kind (size_of kind n))
  where
    by_room : (b : Bool) → (collects (if b then nexts.Build kind n seed else nexts.Open) ≡ false) × (is_over (if b then nexts.Build kind n seed else nexts.Open) ≡ false)
    by_room true = (refl, refl)
    by_room false = (refl, refl)

for_command : (a : NamedHeap) (t : ℕ) (o : Option Command) → (collects (next_command a t o) ≡ false) × (is_over (next_command a t o) ≡ false)
for_command a t None = (refl, refl)
for_command a t (Some c) = for_wish a t (wish_of c)

-- whether a collection is due for a thread, and whether it has ended, follow from its state
pub over_is : (p : Program) (a : NamedHeap) (t : ℕ) → is_over (next p a t) ≡ (thread_at a t).ended
unfolding next
over_is p a t = elim (cases_Bool (thread_at a t).ended) [
  | inl ended ↦ rw ended refl
  | inr alive ↦ rw alive (by_due (due (thread_at a t)) refl)
]
  where
    by_due : (o : Option ℕ) → due (thread_at a t) ≡ o → is_over (next_unless_due (due (thread_at a t)) (next_command a t (command_at p a t))) ≡ false
    by_due None e = rw e (for_command a t (command_at p a t)).1
    by_due (Some last) e = rw e refl

abbrev pub is_asked : Thread → Bool
is_asked th = if th.ended then false else is_some (due th)

pub due_is : (p : Program) (a : NamedHeap) (t : ℕ) → collects (next p a t) ≡ is_asked (thread_at a t)
unfolding next
due_is p a t = elim (cases_Bool (thread_at a t).ended) [
  | inl ended ↦ rw ended refl
  | inr alive ↦ rw alive (by_due (due (thread_at a t)) refl)
]
  where
    by_due : (o : Option ℕ) → due (thread_at a t) ≡ o → collects (next_unless_due (due (thread_at a t)) (next_command a t (command_at p a t))) ≡ is_some (due (thread_at a t))
    by_due None e = rw e (for_command a t (command_at p a t)).0
    by_due (Some last) e = rw e refl

same_state : (p : Program) (a b : NamedHeap) (u : ℕ) → (thread_at b u).ended ≡ (thread_at a u).ended → (thread_at b u).owed ≡ (thread_at a u).owed →
    (thread_at b u).inhibits ≡ (thread_at a u).inhibits → IsAsBefore p a b u
same_state p a b u ended owed inhibits = record {
  due = due_is p b u ∙ asked ended owed inhibits ∙ sym (due_is p a u);
  over = over_is p b u ∙ ended ∙ sym (over_is p a u);
  inhibits = inhibits;
}
  where
    asked : {d d' : Bool} {o o' : Option ℕ} {i i' : ℕ} → d' ≡ d → o' ≡ o → i' ≡ i →
        (if d' then false else is_some (if i' == 0 then o' else None)) ≡ (if d then false else is_some (if i == 0 then o else None))
    asked d o i = rw (d, o, i) refl

-- the other threads after each event
others_same : (p : Program) (a : NamedHeap) (e : Event) → IsLimited p → IsWellFormed p a → IsNext p a e → (u : ℕ) → u ≢ thread_of e → IsAsBefore p a (after p a e) u
unfolding after
others_same p a e limits w lawful u other = by_event e lawful other
  where
    calm : (e : Event) → IsNext p a e → is_collection e ≡ false → u ≢ thread_of e → IsAsBefore p a (after p a e) u
    calm e lawful quiet other =
        let task = (others_left p a e limits w lawful quiet u other).task in
        same_state p a (after p a e) u task.ended task.owed task.inhibits

    by_event : (e : Event) → IsNext p a e → u ≢ thread_of e → IsAsBefore p a (after p a e) u
    by_event (Did t c answer) lawful other = calm (Did t c answer) lawful refl other
    by_event (Opened t ty first k) lawful other = calm (Opened t ty first k) lawful refl other
    by_event (Collected t last passes) lawful other =
        let same = (collected_threads a t last passes).others u other in
        same_state p a (after p a (Collected t last passes)) u (ap (λ (th : Thread). th.ended) same) (ap (λ (th : Thread). th.owed) same) (ap (λ (th : Thread). th.inhibits) same)
    by_event (Ended t) lawful other = calm (Ended t) lawful refl other

-- a thread that inhibits goes on
inhibiting_goes : (p : Program) (b : NamedHeap) (t : ℕ) → IsWellFormed p b → (thread_at b t).inhibits ≢ 0 → (collects (next p b t) ≡ false) × (is_over (next p b t) ≡ false)
inhibiting_goes p b t w inhibits = (due_is p b t ∙ none (thread_at b t).ended, over_is p b t ∙ alive)
  where
    none : (d : Bool) → (if d then false else is_some (due (thread_at b t))) ≡ false
    none true = refl
    none false = rw (ne_eqb (thread_at b t).inhibits 0 inhibits) refl

    alive : (thread_at b t).ended ≡ false
    alive = elim (cases_lt t (length p.threads)) [
      | inl l ↦ elim (cases_Bool (thread_at b t).ended) [
        | inl ended ↦ absurd (inhibits ((w.threads t l).inhibits ended))
        | inr living ↦ living
      ]
      | inr past ↦ absurd (inhibits (ap (λ (th : Thread). th.inhibits) (get_or_past b.threads t (ended_thread fresh_thread) (let same = w.threads_length in omega arith))))
    ]

opened_goes : (p : Program) (a : NamedHeap) (e : Event) → IsNext p a e → opens e ≡ true → (collects (next p (after p a e) (thread_of e)) ≡ false) × (is_over (next p (after p a e) (thread_of e)) ≡ false)
unfolding after
opened_goes p a (Did t c answer) lawful is = absurd (false≢true is)
opened_goes p a (Opened t ty first k) lawful is =
    let builds = opened_builds p a t ty first k (opens_from p a t ty first k lawful) in
    (ap collects builds, ap is_over builds)
opened_goes p a (Collected t last passes) lawful is = absurd (false≢true is)
opened_goes p a (Ended t) lawful is = absurd (false≢true is)

-- where a collection is due the event is one
answers_no_collection : (a : NamedHeap) (t : ℕ) (c : Command) (answer : Answer) (n : Next) → IsAnswer a t c answer n → collects n ≡ true → ⊥
answers_no_collection a t c answer nexts.Simple h due = false≢true due
answers_no_collection a t c answer nexts.Open h due = false≢true due
answers_no_collection a t c answer (nexts.Build kind n seed) h due = false≢true due
answers_no_collection a t c answer (nexts.Collect last) h due = h
answers_no_collection a t c answer nexts.End h due = false≢true due
answers_no_collection a t c answer nexts.Done h due = false≢true due

collected_goes : (p : Program) (a : NamedHeap) (e : Event) → IsNext p a e → collects (next p a (thread_of e)) ≡ true →
    (is_over (next p (after p a e) (thread_of e)) ≡ false) × ((thread_at (after p a e) (thread_of e)).inhibits ≡ (thread_at a (thread_of e)).inhibits)
unfolding IsNext after
collected_goes p a (Did t c answer) lawful due = absurd (answers_no_collection a t c answer (next p a t) lawful.1 due)
collected_goes p a (Opened t ty first k) lawful due = absurd (false≢true (ap collects (sym lawful.0) ∙ due))
collected_goes p a (Collected t last passes) lawful due =
    let d = collects_from p a t last passes lawful in
    let here = (collected_threads a t last passes).own (alive_thread a t d.alive) in
    (over_is p (collected a t last passes) t ∙ ap (λ (th : Thread). th.ended) here ∙ d.alive, ap (λ (th : Thread). th.inhibits) here)
collected_goes p a (Ended t) lawful due = absurd (false≢true (ap collects (sym lawful) ∙ due))

-- every event
pub event_step : (p : Program) (a : NamedHeap) (e : Event) → IsLimited p → IsWellFormed p a → IsNext p a e → IsEventStep p a (after p a e) (thread_of e) e
event_step p a e limits w lawful = record {
  others = others_same p a e limits w lawful;
  opened = opened_goes p a e lawful;
  inhibiting = inhibiting_goes p (after p a e) (thread_of e) (event-kept p limits a e lawful w);
  collected = collected_goes p a e lawful;
  falls = all_left_falls p a e limits w lawful;
}
