-- Histories one after the other, and a fact that each event keeps.
use Rattle.std.proofs.Common.{◌≡◌, List, [], ◌∷◌, ◌++◌, refl}
use Rattle.heap_terms.specs.declared.events.Event.{Event}
use Rattle.heap_terms.specs.declared.programs.Program.{Program}
use Rattle.heap_terms.specs.Heap.{NamedHeap, start}
use Rattle.heap_terms.specs.Histories.{IsNext, after, LawfulFrom, replay_from, Lawful, replay}

-- the heap after two lists of events is that after the second from the heap after the first
pub replay_from-append : (p : Program) (a : NamedHeap) (xs ys : List Event) →
    replay_from p a (xs ++ ys) ≡ replay_from p (replay_from p a xs) ys
replay_from-append p a [] ys = refl
replay_from-append p a (x ∷ xs) ys = replay_from-append p (after p a x) xs ys

pub LawfulFrom-append : (p : Program) (a : NamedHeap) (xs ys : List Event) →
    LawfulFrom p a xs → LawfulFrom p (replay_from p a xs) ys → LawfulFrom p a (xs ++ ys)
LawfulFrom-append p a [] ys front rest = rest
LawfulFrom-append p a (x ∷ xs) ys front rest = (front.0, LawfulFrom-append p (after p a x) xs ys front.1 rest)

-- what stands first in a lawful list of events is lawful, and so is the rest from the heap after it
pub LawfulFrom-parts : (p : Program) (a : NamedHeap) (xs ys : List Event) → LawfulFrom p a (xs ++ ys) →
    LawfulFrom p a xs × LawfulFrom p (replay_from p a xs) ys
LawfulFrom-parts p a [] ys both = (tt, both)
LawfulFrom-parts p a (x ∷ xs) ys both =
    let parts = LawfulFrom-parts p (after p a x) xs ys both.1 in ((both.0, parts.0), parts.1)

-- a lawful history and an event that may come next make a lawful history
pub Lawful-push : (p : Program) (h : List Event) (e : Event) → Lawful p h → IsNext p (replay p h) e → Lawful p (h ++ e ∷ [])
Lawful-push p h e lawful next = LawfulFrom-append p (start p) h (e ∷ []) lawful (next, tt)

-- and the heap after it is that after the event
pub replay-push : (p : Program) (h : List Event) (e : Event) → replay p (h ++ e ∷ []) ≡ after p (replay p h) e
replay-push p h e = replay_from-append p (start p) h (e ∷ [])

-- a fact of heaps that each event keeps holds after a list of events
pub kept_by_events : (p : Program) (P : NamedHeap → Type 0) →
    ((a : NamedHeap) (e : Event) → IsNext p a e → P a → P (after p a e)) →
    (a : NamedHeap) (h : List Event) → P a → LawfulFrom p a h → P (replay_from p a h)
kept_by_events p P step a [] now lawful = now
kept_by_events p P step a (e ∷ es) now lawful =
    kept_by_events p P step (after p a e) es (step a e lawful.0 now) lawful.1
