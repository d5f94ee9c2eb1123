-- Every lawful history of a program within the limits leaves a well-formed heap.
use Rattle.std.proofs.Common.{◌≡◌, ℕ, ◌^◌, ◌<◌, ◌≤◌, List, [], length, Bool, false, refl, arith}
use Rattle.heap_terms.specs.declared.commands.Command.{Command}
use Rattle.heap_terms.specs.declared.events.Event.{Event}
use Rattle.heap_terms.specs.declared.limits.TheConstants.{MOST_PAGES}
use Rattle.heap_terms.specs.declared.programs.Program.{Program}
use Rattle.heap_terms.specs.Heap.{NamedHeap, Thread, start, thread_at, with_thread}
use Rattle.heap_terms.specs.Histories.{IsNext, after, Lawful, LawfulFrom, replay, replay_from}
use Rattle.heap_terms.specs.Layout.{size_of}
use Rattle.heap_terms.specs.Outcomes.{outcome_of}
use Rattle.heap_terms.specs.Regions.{committed}
use Rattle.heap_terms.specs.Valid.{IsValid, IsInRange, is_gc}
use Rattle.heap_laws.specs.Limited.{IsLimited}
use Rattle.heap_terms.specs.WellFormed.{IsWellFormed}
use Rattle.heap_laws.proofs.Events.Appending.{kept_by_events}
use Rattle.heap_laws.proofs.Events.Causes.{by_events}
use Rattle.heap_laws.proofs.Outcomes.Changes.{IsRewritten, by_outcome}
use Rattle.heap_laws.proofs.Programs.Limits.{limited, script_in_range}
use Rattle.heap_laws.proofs.Programs.ScriptCommands.{script_thread}
use Rattle.heap_laws.proofs.WellFormed.Committed.{committed-kept}
use Rattle.heap_laws.proofs.WellFormed.FieldWritten.{written-kept, queued-kept}
use Rattle.heap_laws.proofs.WellFormed.LivingValues.{AreBelow-nil}
use Rattle.heap_laws.proofs.WellFormed.PagesStay.{needs_least}
use Rattle.heap_laws.proofs.WellFormed.RegionOpened.{opened-kept}
use Rattle.pass_laws.proofs.Collecting.{collected-well_formed}
use Rattle.heap_laws.proofs.WellFormed.Threads.{start-well_formed, cells-kept, same_regions, with_cell-kept, advance-kept, ended-kept}

-- a thread with other words and numbers
rewritten-kept : (p : Program) (a : NamedHeap) (t : ℕ) (asks : Bool) (th : Thread) → IsWellFormed p a → IsRewritten a.objects asks (thread_at a t) th → IsWellFormed p (with_thread a t th)
rewritten-kept p a t asks th w r = cells-kept p a t th w (λ l. r.cells) (same_regions (thread_at a t) th r.cons_page r.boxed_page r.unboxed_page r.run)

-- a command that allocates nothing
pub outcome-kept : (p : Program) (a : NamedHeap) (t : ℕ) (c : Command) → IsWellFormed p a → p.pages ≤ MOST_PAGES → t < length p.threads → (thread_at a t).ended ≡ false →
    IsInRange c → IsWellFormed p (outcome_of a t c).heap
outcome-kept p a t c w few l alive in_range = by_outcome p a t (λ b. IsWellFormed p b) w few l alive (is_gc c) w
    (λ d v living. with_cell-kept p a t d v w living)
    (λ th r. rewritten-kept p a t (is_gc c) th w r)
    (λ name o q e same living shape. written-kept p a name o q w e same living shape)
    (λ fs all. queued-kept p a fs a.queue w all w.sound.queue)
    (queued-kept p a a.finalizers [] w w.sound.finalizers (AreBelow-nil (2 ^ 32) (omega arith)))
    c refl in_range

-- each event keeps a heap of a program within the limits well-formed
pub event-kept : (p : Program) → IsLimited p → (a : NamedHeap) (e : Event) → IsNext p a e → IsWellFormed p a → IsWellFormed p (after p a e)
event-kept p limits a e next w = by_events p a (λ e b. IsWellFormed p b)
    (λ t c answer d. advance-kept p (outcome_of a t c).heap t
    (outcome-kept p a t c w limits.pages_most (script_thread p t (thread_at a t).done c d.command) d.alive
    (script_in_range p t (thread_at a t).done c limits d.command)))
    (λ t c answer d. advance-kept p a t w)
    (λ t c answer kind n seed d. advance-kept p (committed p a t c kind n) t
    (committed-kept p a t c kind n seed w (script_thread p t (thread_at a t).done c d.command) (script_in_range p t (thread_at a t).done c limits d.command)
    d.wish d.room))
    (λ t ty first k d. opened-kept p a t ty first k w d.lowest.run (rw d.count_is (needs_least (size_of d.kind d.n))))
    (λ t last passes d. collected-well_formed p a t last passes w d.collection)
    (λ t d. ended-kept p a t w)
    e next

-- from a well-formed heap on
pub history_from-kept : (p : Program) → IsLimited p → (a : NamedHeap) (h : List Event) → IsWellFormed p a → LawfulFrom p a h → IsWellFormed p (replay_from p a h)
history_from-kept p limits = kept_by_events p (λ a. IsWellFormed p a) (event-kept p limits)

-- and from the start of the program
pub history-kept : (p : Program) (h : List Event) → IsLimited p → Lawful p h → IsWellFormed p (replay p h)
history-kept p h limits lawful = history_from-kept p limits (start p) h (start-well_formed p) lawful

-- the same of valid programs
pub after-well_formed : (p : Program) → IsValid p → (a : NamedHeap) (e : Event) → IsNext p a e → IsWellFormed p a → IsWellFormed p (after p a e)
after-well_formed p valid = event-kept p (limited p valid)

pub replay-well_formed : (p : Program) (h : List Event) → IsValid p → Lawful p h → IsWellFormed p (replay p h)
replay-well_formed p h valid lawful = history-kept p h (limited p valid) lawful
