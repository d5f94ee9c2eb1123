-- Lawful histories: what each thread may do next, what an event makes of the heap, and which lists of events
-- a program can have. The events are this project's own. Left free are which thread goes next, and the order of the
-- moves of each pass.
use Rattle.std.specs.Prelude.{◌≡◌, ℕ, ◌+◌, List, [], ◌∷◌, length, Option, Some, None, if◌then◌else◌, slice_get, slice_index_or, ◌==◌}
use Rattle.heap_terms.specs.declared.answers.Answer.{Answer}
use Rattle.heap_terms.specs.declared.answers.Answer.TheVariants as answers
use Rattle.heap_terms.specs.declared.commands.Command.{Command}
use Rattle.heap_terms.specs.declared.events.Event.{Event}
use Rattle.heap_terms.specs.declared.events.Event.TheVariants.{Did, Opened, Collected, Ended}
use Rattle.heap_terms.specs.declared.kinds.PageType.{PageType}
use Rattle.heap_terms.specs.declared.pages.Next.{Next}
use Rattle.heap_terms.specs.declared.pages.Next.TheVariants as nexts
use Rattle.heap_terms.specs.declared.programs.Program.{Program}
use Rattle.heap_terms.specs.Collections.{IsCollection, collected}
use Rattle.heap_terms.specs.Heap.{NamedHeap, Thread, start, thread_at, with_thread, ended_thread}
use Rattle.heap_terms.specs.Layout.{page_type_of, size_of}
use Rattle.heap_terms.specs.Outcomes.{outcome_of}
use Rattle.heap_terms.specs.Regions.{Wish, Nothing, Make, wish_of, has_room, pages_needed, IsLowestRun, HasNoRun, opened, committed, place_for}

-- the commands of thread t
abbrev pub script_of : Program → ℕ → List Command
script_of p t = slice_index_or p.threads t []

-- the command at thread t's place in its script
abbrev pub command_at : Program → NamedHeap → ℕ → Option Command
command_at p a t = slice_get (script_of p t) (thread_at a t).done

-- what a thread does for a wish: open a region where there is no room for the object, and else build it
abbrev pub next_for : NamedHeap → ℕ → Wish → Next
next_for a t Nothing = nexts.Simple
next_for a t (Make kind n seed) = if has_room a t kind (size_of kind n) then nexts.Build kind n seed else nexts.Open

-- what a thread does for the command at its place; it ends where there is none
abbrev pub next_command : NamedHeap → ℕ → Option Command → Next
next_command a t None = nexts.End
next_command a t (Some c) = next_for a t (wish_of c)

-- the generation up to which a thread must collect now: what it owes, while it does not inhibit
abbrev pub due : Thread → Option ℕ
due th = if th.inhibits == 0 then th.owed else None

-- a collection that is due comes before anything else
abbrev pub next_unless_due : Option ℕ → Next → Next
next_unless_due None otherwise = otherwise
next_unless_due (Some last) otherwise = nexts.Collect last

-- what thread t does next
unfoldable pub next : Program → NamedHeap → ℕ → Next
next p a t =
    if (thread_at a t).ended then nexts.Done
    else next_unless_due (due (thread_at a t)) (next_command a t (command_at p a t))

-- the heap with thread t one command further in its script
abbrev pub advance : NamedHeap → ℕ → NamedHeap
advance a t = with_thread a t (record (thread_at a t) { done = (thread_at a t).done + 1 })

-- how many words a wish asks for
abbrev pub wished_size : Wish → ℕ
wished_size Nothing = 0
wished_size (Make kind n seed) = size_of kind n

-- The region that an event opens is right for a wish: the type of its kind, as many pages as it needs, and the
-- lowest run of them.
abbrev pub IsOpening : NamedHeap → Wish → PageType → ℕ → ℕ → Type 0
IsOpening a Nothing ty first k = ⊥
IsOpening a (Make kind n seed) ty first k =
    (ty ≡ page_type_of kind) × (k ≡ pages_needed (size_of kind n)) × IsLowestRun a.pages first k

-- the wish of the command at a thread's place
abbrev pub wish_at : Option Command → Wish
wish_at None = Nothing
wish_at (Some c) = wish_of c

-- An answer that thread t's command may give, by what t does next: that of the table of outcomes where it allocates
-- nothing, and where its object finds no room and no run; the object's name and place where it has room. In every
-- other state a thread does no command.
abbrev pub IsAnswer : NamedHeap → ℕ → Command → Answer → Next → Type 0
IsAnswer a t c answer nexts.Simple = answer ≡ (outcome_of a t c).answer
IsAnswer a t c answer nexts.Open = (answer ≡ (outcome_of a t c).answer) × HasNoRun a.pages (pages_needed (wished_size (wish_of c)))
IsAnswer a t c answer (nexts.Build kind n seed) = answer ≡ answers.Placed (length a.objects) (place_for a t kind (size_of kind n))
IsAnswer a t c answer (nexts.Collect last) = ⊥
IsAnswer a t c answer nexts.End = ⊥
IsAnswer a t c answer nexts.Done = ⊥

-- An event that may come next. The command of a `Did` is the one at its thread's place. A collection comes where its
-- thread owes one and no thread inhibits; its passes are those that the rules of a collection allow.
unfoldable pub IsNext : Program → NamedHeap → Event → Type 0
IsNext p a (Did t c answer) = (command_at p a t ≡ Some c) × IsAnswer a t c answer (next p a t)
IsNext p a (Opened t ty first k) = (next p a t ≡ nexts.Open) × IsOpening a (wish_at (command_at p a t)) ty first k
IsNext p a (Collected t last passes) = (next p a t ≡ nexts.Collect last) × IsCollection a last passes
IsNext p a (Ended t) = next p a t ≡ nexts.End

-- the heap after thread t's command, by what t did
abbrev pub after_command : Program → NamedHeap → ℕ → Command → Next → NamedHeap
after_command p a t c nexts.Simple = advance (outcome_of a t c).heap t
after_command p a t c nexts.Open = advance (outcome_of a t c).heap t
after_command p a t c (nexts.Build kind n seed) = advance (committed p a t c kind n) t
after_command p a t c (nexts.Collect last) = a
after_command p a t c nexts.End = a
after_command p a t c nexts.Done = a

-- the heap after an event that may come next
unfoldable pub after : Program → NamedHeap → Event → NamedHeap
after p a (Did t c answer) = after_command p a t c (next p a t)
after p a (Opened t ty first k) = opened a t ty first k
after p a (Collected t last passes) = collected a t last passes
after p a (Ended t) = with_thread a t (ended_thread (thread_at a t))

-- the thread that an event belongs to
abbrev pub thread_of : Event → ℕ
thread_of (Did t c answer) = t
thread_of (Opened t ty first k) = t
thread_of (Collected t last passes) = t
thread_of (Ended t) = t

-- each event of a list may come next, from a heap on
abbrev pub LawfulFrom : Program → NamedHeap → List Event → Type 0
LawfulFrom p a [] = Unit {0}
LawfulFrom p a (e ∷ es) = IsNext p a e × LawfulFrom p (after p a e) es

-- the heap after a list of events
abbrev pub replay_from : Program → NamedHeap → List Event → NamedHeap
replay_from p a [] = a
replay_from p a (e ∷ es) = replay_from p (after p a e) es

-- a history of a program, from its start on
abbrev pub Lawful : Program → List Event → Type 0
Lawful p h = LawfulFrom p (start p) h

-- the heap at the end of a history
abbrev pub replay : Program → List Event → NamedHeap
replay p h = replay_from p (start p) h
