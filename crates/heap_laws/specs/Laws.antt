-- Laws of the definitions, each for every program: what a reader may rely on beside the definitions themselves.
use Rattle.std.specs.Prelude.{◌≡◌, ◌↔◌, ℕ, ◌+◌, ◌<◌, ◌≤◌, List, [], ◌∷◌, ◌++◌, length, map, All, None, false}
use Rattle.heap_terms.specs.declared.events.Event.{Event}
use Rattle.heap_terms.specs.declared.events.PassRecord.{PassRecord}
use Rattle.heap_terms.specs.declared.programs.Program.{Program}
use Rattle.heap_terms.specs.declared.limits.TheConstants.{MOST_COMMANDS, OLDEST_COLLECTED}
use Rattle.heap_terms.specs.Collections.{IsPassOf, after_pass_of}
use Rattle.heap_terms.specs.Complete.{IsComplete}
use Rattle.heap_terms.specs.Heap.{NamedHeap, thread_at}
use Rattle.heap_terms.specs.Histories.{IsNext, after, due, Lawful, LawfulFrom, replay, replay_from, thread_of, script_of}
use Rattle.pass_laws.specs.NoRegions.{HasNoRegions}
use Rattle.heap_laws.specs.Remaining.{all_left, events_at_most, most_events}
use Rattle.heap_laws.specs.Order.{commands_of, events_of, EndsOnce, orders_of}
use Rattle.heap_laws.specs.Limited.{IsLimited}
use Rattle.heap_laws.specs.Numbers.{HasNumbers, most_passes}
use Rattle.heap_laws.specs.Plain.{IsPlain}
use Rattle.heap_laws.specs.HeapRuns.{IsRunOf}
use Rattle.heap_terms.specs.Valid.{IsValid}
use Rattle.heap_terms.specs.WellFormed.{IsWellFormed}

-- a lawful history and an event that may come next make a lawful history, whose heap is the one after the event
abbrev pub HistoriesGrow : Type 0
HistoriesGrow = (p : Program) (h : List Event) (e : Event) → Lawful p h → IsNext p (replay p h) e →
    Lawful p (h ++ e ∷ []) × (replay p (h ++ e ∷ []) ≡ after p (replay p h) e)

-- a valid program is within the limits
abbrev pub ValidAreLimited : Type 0
ValidAreLimited = (p : Program) → IsValid p → IsLimited p

-- every event, a collection too, keeps a heap well-formed
abbrev pub EventsKeepHeaps : Type 0
EventsKeepHeaps = (p : Program) (a : NamedHeap) (e : Event) → IsLimited p → IsWellFormed p a → IsNext p a e → IsWellFormed p (after p a e)

-- so every lawful history leaves a well-formed heap
abbrev pub HeapsAreWellFormed : Type 0
HeapsAreWellFormed = (p : Program) (h : List Event) → IsLimited p → Lawful p h → IsWellFormed p (replay p h)

-- of at most 20,000 objects
abbrev pub HeapsAreSmall : Type 0
HeapsAreSmall = (p : Program) (h : List Event) → IsValid p → Lawful p h → length (replay p h).objects ≤ MOST_COMMANDS

-- with no more finalizers on the list and in the queue than events
abbrev pub FinalizersAreFew : Type 0
FinalizersAreFew = (p : Program) (h : List Event) → Lawful p h → length (replay p h).finalizers + length (replay p h).queue ≤ length h

-- The policy's numbers stay small: in every such heap, and after each pass of a collection they are those of one pass
-- more. So sums and products of them fit 64 bits.
abbrev pub NumbersStaySmall : Type 0
NumbersStaySmall =
    ((p : Program) (h : List Event) → IsValid p → Lawful p h → HasNumbers (replay p h) most_passes)
    × ((p : Program) (a : NamedHeap) (last g passes : ℕ) (r : PassRecord) → g ≤ OLDEST_COLLECTED → IsWellFormed p a → HasNoRegions a →
    length a.objects ≤ MOST_COMMANDS → IsPassOf a last g r → HasNumbers a passes → HasNumbers (after_pass_of a last g r) (passes + 1))

-- with each event, collections too, there is less left, so that every history ends: it has at most so many events as follow
-- from its program, and never more than 41,168
abbrev pub HistoriesEnd : Type 0
HistoriesEnd =
    ((p : Program) (a : NamedHeap) (e : Event) → IsLimited p → IsWellFormed p a → IsNext p a e → all_left p (after p a e) + 1 ≤ all_left p a)
    × ((p : Program) (h : List Event) → IsLimited p → Lawful p h → length h ≤ events_at_most p)
    × ((p : Program) → IsValid p → events_at_most p ≤ most_events)

-- each thread that has not ended, and for which no collection is due, has an event that may come next
abbrev pub ThreadsGoOn : Type 0
ThreadsGoOn = (p : Program) (a : NamedHeap) (t : ℕ) → (thread_at a t).ended ≡ false → due (thread_at a t) ≡ None →
    (e : Event) × (thread_of e ≡ t) × IsNext p a e

-- while some thread has not ended some event may come next, in every well-formed heap: a collection that is due waits only
-- for threads that inhibit, and those go on
abbrev pub HistoriesGoOn : Type 0
HistoriesGoOn = (p : Program) (a : NamedHeap) (t : ℕ) → IsWellFormed p a → (thread_at a t).ended ≡ false → (e : Event) × IsNext p a e

-- so that every history is the beginning of a complete one
abbrev pub HistoriesComplete : Type 0
HistoriesComplete = (p : Program) (h : List Event) → IsLimited p → Lawful p h → (more : List Event) × IsComplete p (h ++ more)

-- runs as a relation are the lawful lists of events, with the heap that they replay to
abbrev pub RunsAreLawful : Type 0
RunsAreLawful = (p : Program) (a : NamedHeap) (h : List Event) (b : NamedHeap) →
    IsRunOf p a h b ↔ (LawfulFrom p a h × (b ≡ replay_from p a h))

-- in a complete history each thread does the commands of its script once and in order, and its last event is its
-- only end
abbrev pub ScriptsAreDone : Type 0
ScriptsAreDone = (p : Program) (h : List Event) (t : ℕ) → IsLimited p → IsComplete p h → t < length p.threads →
    (commands_of t h ≡ script_of p t) × EndsOnce t (events_of t h)

-- every event of a lawful history of a valid program is plain, collections too
abbrev pub EventsArePlain : Type 0
EventsArePlain = (p : Program) (h : List Event) → IsValid p → Lawful p h → All IsPlain h

-- What a thread may do next is one event, but for the orders in which a collection takes its names: so the order of the
-- threads and those orders determine a history.
abbrev pub OrderDetermines : Type 0
OrderDetermines =
    ((p : Program) (a : NamedHeap) (e f : Event) → IsNext p a e → IsNext p a f → thread_of e ≡ thread_of f → orders_of e ≡ orders_of f → e ≡ f)
    × ((p : Program) (h g : List Event) → Lawful p h → Lawful p g → map thread_of h ≡ map thread_of g → map orders_of h ≡ map orders_of g → h ≡ g)
