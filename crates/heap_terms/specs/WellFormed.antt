-- Well-formed heaps: what every lawful history of a valid program leaves behind, whatever it did, collections included:
-- a sound heap with the pages and threads of the program, whose threads have their cells and regions. It is this
-- project's own. Left free is what a sound heap leaves free.
use Rattle.std.specs.Prelude.{◌≡◌, ℕ, ◌+◌, ◌^◌, ◌<◌, ◌≤◌, List, length, Option, Some, IfSome, true}
use Rattle.heap_terms.specs.declared.limits.TheConstants.{CELLS, RAW_CELLS, MOST_PINS, MOST_TRIGGERS, OLDEST_COLLECTED}
use Rattle.heap_terms.specs.declared.kinds.PageType.{PageType}
use Rattle.heap_terms.specs.declared.pages.Entry.{Entry}
use Rattle.heap_terms.specs.declared.pages.Entry.TheVariants.{Free, Used}
use Rattle.heap_terms.specs.declared.programs.Program.{Program}
use Rattle.heap_terms.specs.Heap.{NamedHeap, Thread, object_at, entry_at, thread_at, open_page}
use Rattle.heap_terms.specs.Objects.{Object}
pub use Rattle.heap_terms.specs.Living.{IsLiving, IsLivingOrUnbound, AreLiving, HoldsLiving, AreBelow, AreDistinctKeys, IsShaped}
pub use Rattle.heap_terms.specs.OnPages.{IsOnPage, IsPageOfRun, IsPlaced, AreApart, IsFill, IsEntry, SaysOfRun, IsInRun, BelongsTo, IsOwned}
pub use Rattle.heap_terms.specs.Sound.{IsObject, IsFinalizer, IsSound}

-- an open page of a type: used, of generation 0, and a run by itself
abbrev pub IsOpenPage : PageType → ℕ → Entry → Type 0
IsOpenPage ty page Free = ⊥
IsOpenPage ty page (Used other g fill first pages) = (other ≡ ty) × (g ≡ 0) × (first ≡ page) × (pages ≡ 1)

-- a page of an open run of a type, which holds nothing yet
abbrev pub IsOpenRunPage : PageType → ℕ → ℕ → Entry → Type 0
IsOpenRunPage ty start k Free = ⊥
IsOpenRunPage ty start k (Used other g fill first pages) = (other ≡ ty) × (g ≡ 0) × (fill ≡ 0) × (first ≡ start) × (pages ≡ k)

-- an open run begins at a page, has two or more of one type, and all of them hold nothing
pub record IsOpenRun (pages : List Entry) (first : ℕ) : Type 0 where
  pub ty : PageType
  pub k : ℕ
  pub long : 2 ≤ k
  pub inside : first + k ≤ length pages
  pub each : (i : ℕ) → i < k → IsOpenRunPage ty first k (entry_at pages (first + i))

-- a thread has all its cells, their values are living, its raw words and its pins are words of 64 bits, it has at most
-- 32 pins, it owes no more than a full collection, its open pages and its open run are open, and it inhibits nothing
-- once it has ended
pub record IsThread (objects : List (Option Object)) (pages : List Entry) (th : Thread) : Type 0 where
  pub stack_length : length th.stack ≡ CELLS
  pub exact_length : length th.exact ≡ CELLS
  pub raws_length : length th.raws ≡ RAW_CELLS
  pub stack : AreLiving objects th.stack
  pub exact : AreLiving objects th.exact
  pub raws : AreBelow (2 ^ 64) th.raws
  pub pins : AreBelow (2 ^ 64) th.pins
  pub pins_most : length th.pins ≤ MOST_PINS
  pub owed : IfSome th.owed (λ last. last ≤ OLDEST_COLLECTED)
  pub open_pages : (ty : PageType) → IfSome (open_page th ty) (λ page. IsOpenPage ty page (entry_at pages page))
  pub open_run : IfSome th.open_run (IsOpenRun pages)
  pub inhibits : th.ended ≡ true → th.inhibits ≡ 0

-- a page in use is of a generation that is collected
abbrev pub IsCollected : Entry → Type 0
IsCollected Free = Unit {0}
IsCollected (Used ty g fill first pages) = g ≤ OLDEST_COLLECTED

-- The heap is sound, its lengths are the program's, each value in a cell refers to an object that is there, objects and
-- pages are of generations that are collected, at most 64 commits have triggered, and no two threads share an open page or
-- run.
pub record IsWellFormed (p : Program) (a : NamedHeap) : Type 0 where
  pub sound : IsSound a
  pub pages_length : length a.pages ≡ p.pages
  pub threads_length : length a.threads ≡ length p.threads
  pub shared_length : length a.shared ≡ CELLS
  pub cum_length : length a.cum ≡ 7
  pub num_length : length a.num ≡ 7
  pub threads : (t : ℕ) → t < length p.threads → IsThread a.objects a.pages (thread_at a t)
  pub shared : AreLiving a.objects a.shared
  pub objects_collected : (name : ℕ) (o : Object) → object_at a.objects name ≡ Some o → o.generation ≤ OLDEST_COLLECTED
  pub pages_collected : (page : ℕ) → IsCollected (entry_at a.pages page)
  pub triggered : a.triggered ≤ MOST_TRIGGERS
  pub own_pages : (t u : ℕ) (ty other : PageType) (page : ℕ) → open_page (thread_at a t) ty ≡ Some page →
      open_page (thread_at a u) other ≡ Some page → (t ≡ u) × (ty ≡ other)
  pub own_runs : (t u : ℕ) (page : ℕ) → (thread_at a t).open_run ≡ Some page → (thread_at a u).open_run ≡ Some page → t ≡ u
