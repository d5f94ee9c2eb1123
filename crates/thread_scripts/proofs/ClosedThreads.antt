-- A thread that has ended has no open region, whatever its history.
use Rattle.std.proofs.Common.{◌≡◌, ◌≢◌, ℕ, ◌<◌, List, [], ◌∷◌, length, Bool, true, false, None, inl, inr, refl, sym, ◌∙◌, ap, subst}
use Rattle.std.proofs.lemmas.Bool.{cases_eq, false≢true}
use Rattle.std.proofs.lemmas.List.{get_or-set_same}
use Rattle.heap_terms.specs.declared.events.Event.{Event}
use Rattle.heap_terms.specs.declared.events.Event.TheVariants.{Did, Opened, Collected, Ended}
use Rattle.heap_terms.specs.declared.kinds.PageType.TheVariants as types
use Rattle.heap_terms.specs.declared.programs.Program.{Program}
use Rattle.heap_terms.specs.Heap.{NamedHeap, Thread, start, thread_at, ended_thread, fresh_thread}
use Rattle.heap_terms.specs.Histories.{IsNext, LawfulFrom, Lawful, after, replay, replay_from, thread_of}
use Rattle.heap_terms.specs.Valid.{IsValid}
use Rattle.heap_terms.specs.WellFormed.{IsWellFormed}
use Rattle.heap_laws.specs.Limited.{IsLimited}
use Rattle.heap_laws.specs.Order.{is_end}
use Rattle.heap_laws.proofs.EventSteps.{IsLeft, others_left, is_collection, collected_threads, alive_thread, event-kept, limited}
use Rattle.heap_laws.proofs.OwnEvents.{moves}
use Rattle.heap_laws.proofs.SoundHeaps.{start_thread, start-well_formed}
use Rattle.thread_scripts.specs.Finished.{HasNoRegion}

-- each thread that has ended has no open region
abbrev pub EndedAreClosed : NamedHeap → Type 0
EndedAreClosed a = (t : ℕ) → (thread_at a t).ended ≡ true → HasNoRegion (thread_at a t)

-- another thread after an event that is no collection
left_closed : (a b : NamedHeap) (u : ℕ) → IsLeft a b u → EndedAreClosed a → (thread_at b u).ended ≡ true → HasNoRegion (thread_at b u)
left_closed a b u left closed ended =
    let before = closed u (sym left.task.ended ∙ ended) in
    record {
      cons = left.task.pages types.Cons ∙ before.cons;
      boxed = left.task.pages types.Boxed ∙ before.boxed;
      unboxed = left.task.pages types.Unboxed ∙ before.unboxed;
      run = left.task.run ∙ before.run;
    }

-- an event's own thread
own_closed : (p : Program) (a : NamedHeap) (e : Event) → IsLimited p → IsWellFormed p a → IsNext p a e → (thread_at (after p a e) (thread_of e)).ended ≡ true →
    HasNoRegion (thread_at (after p a e) (thread_of e))
unfolding after
own_closed p a (Did t c answer) limits w lawful ended = absurd (false≢true (sym (moves p a (Did t c answer) limits w lawful).ended ∙ ended))
own_closed p a (Opened t ty first k) limits w lawful ended = absurd (false≢true (sym (moves p a (Opened t ty first k) limits w lawful).ended ∙ ended))
own_closed p a (Collected t last passes) limits w lawful ended = absurd (false≢true (sym (moves p a (Collected t last passes) limits w lawful).ended ∙ ended))
own_closed p a (Ended t) limits w lawful ended =
    let m = moves p a (Ended t) limits w lawful in
    let here : thread_at (after p a (Ended t)) t ≡ ended_thread (thread_at a t) = get_or-set_same a.threads t (ended_thread (thread_at a t)) (ended_thread fresh_thread) (alive_thread a t m.alive) in
    rw here (record { cons = refl; boxed = refl; unboxed = refl; run = refl })

other_closed : (p : Program) (a : NamedHeap) (e : Event) → IsLimited p → IsWellFormed p a → IsNext p a e → EndedAreClosed a → (u : ℕ) → u ≢ thread_of e →
    (thread_at (after p a e) u).ended ≡ true → HasNoRegion (thread_at (after p a e) u)
unfolding after
other_closed p a (Did t c answer) limits w lawful closed u other ended = left_closed a _ u (others_left p a (Did t c answer) limits w lawful refl u other) closed ended
other_closed p a (Opened t ty first k) limits w lawful closed u other ended = left_closed a _ u (others_left p a (Opened t ty first k) limits w lawful refl u other) closed ended
other_closed p a (Collected t last passes) limits w lawful closed u other ended =
    rw ((collected_threads a t last passes).others u other) (record { cons = refl; boxed = refl; unboxed = refl; run = refl })
other_closed p a (Ended t) limits w lawful closed u other ended = left_closed a _ u (others_left p a (Ended t) limits w lawful refl u other) closed ended

-- each event keeps it
event_closed : (p : Program) (a : NamedHeap) (e : Event) → IsLimited p → IsWellFormed p a → IsNext p a e → EndedAreClosed a → EndedAreClosed (after p a e)
event_closed p a e limits w lawful closed = λ u ended. elim (cases_eq u (thread_of e)) [
  | inl same ↦ subst (λ (t : ℕ). HasNoRegion (thread_at (after p a e) t)) (sym same)
      (own_closed p a e limits w lawful (ap (λ (t : ℕ). (thread_at (after p a e) t).ended) (sym same) ∙ ended))
  | inr other ↦ other_closed p a e limits w lawful closed u other ended
]

from_closed : (p : Program) (a : NamedHeap) (h : List Event) → IsLimited p → IsWellFormed p a → LawfulFrom p a h → EndedAreClosed a → EndedAreClosed (replay_from p a h)
from_closed p a [] limits w lawful closed = closed
from_closed p a (e ∷ es) limits w lawful closed =
    from_closed p (after p a e) es limits (event-kept p limits a e lawful.0 w) lawful.1 (event_closed p a e limits w lawful.0 closed)

-- and so does every lawful history
pub ended_closed : (p : Program) (h : List Event) → IsValid p → Lawful p h → EndedAreClosed (replay p h)
ended_closed p h valid lawful = from_closed p (start p) h (limited p valid) (start-well_formed p) lawful (λ t ended. (
    let s = start_thread p t in
    rw s.2 (record { cons = refl; boxed = refl; unboxed = refl; run = refl })))
