-- A well-formed heap stays well-formed when a thread's cells change, when it goes on in its script and when it ends.
use Rattle.std.proofs.Common.{◌≡◌, ◌≢◌, ℕ, ◌+◌, ◌^◌, ◌<◌, ◌≤◌, List, [], length, Option, Some, None, Bool, true, false, ◌⊎◌, inl, inr, refl, sym, ◌∙◌, subst, arith, set, replicate, map}
use Rattle.std.proofs.lemmas.Bool.{cases_lt}
use Rattle.std.proofs.lemmas.List.{length-set, length-replicate, length-map, get_or-replicate, get_or_past, get_or-map, get_or-set_same, get_or-set_other}
use Rattle.std.proofs.lemmas.List.Elements.{All-nil}
use Rattle.std.proofs.lemmas.Option.{none-some}
use Rattle.std.specs.Prelude.{IfSome}
use Rattle.heap_terms.specs.declared.cells.Cell.{Cell}
use Rattle.heap_terms.specs.declared.cells.Cell.TheVariants.{Stack, Exact, Shared}
use Rattle.heap_terms.specs.declared.cells.Value.{Value}
use Rattle.heap_terms.specs.declared.kinds.PageType.{PageType}
use Rattle.heap_terms.specs.declared.kinds.PageType.TheVariants as types
use Rattle.heap_terms.specs.declared.pages.Entry.{Entry}
use Rattle.heap_terms.specs.declared.pages.Entry.TheVariants as entries
use Rattle.heap_terms.specs.declared.programs.Program.{Program}
use Rattle.heap_terms.specs.Cells.{with_cell}
use Rattle.heap_terms.specs.Heap.{NamedHeap, Thread, start, thread_at, with_thread, fresh_thread, ended_thread, entry_at, open_page}
use Rattle.heap_terms.specs.Histories.{advance}
use Rattle.heap_terms.specs.Living.{IsLiving, AreLiving, AreBelow}
use Rattle.heap_terms.specs.Objects.{Object}
use Rattle.heap_terms.specs.Sound.{IsSound, IsFinalizer}
use Rattle.heap_terms.specs.WellFormed.{IsWellFormed, IsThread, IsOpenPage, IsOpenRun}
use Rattle.heap_laws.proofs.Lists.Places.{set_cases, IfSome-at, IfSome-from}
use Rattle.heap_laws.proofs.WellFormed.LivingValues.{AreLiving-set, AreLiving-zeros, AreBelow-zeros, AreBelow-nil}

-- the thread that was changed, and the others
pub changed_thread : (a : NamedHeap) (t : ℕ) (th : Thread) → t < length a.threads → thread_at (with_thread a t th) t ≡ th
changed_thread a t th l = get_or-set_same a.threads t th (ended_thread fresh_thread) l

pub other_thread : (a : NamedHeap) (t u : ℕ) (th : Thread) → u ≢ t → thread_at (with_thread a t th) u ≡ thread_at a u
other_thread a t u th h = get_or-set_other a.threads t u th (ended_thread fresh_thread) h

pub thread_cases : (a : NamedHeap) (t u : ℕ) (th : Thread) →
    (thread_at (with_thread a t th) u ≡ thread_at a u) ⊎ ((u ≡ t) × (t < length a.threads) × (thread_at (with_thread a t th) u ≡ th))
thread_cases a t u th = set_cases a.threads t u th (ended_thread fresh_thread)

-- the page that a thread has open of a type is used, also where the number is that of no thread
pub open_page_used : (p : Program) (a : NamedHeap) (t : ℕ) (ty : PageType) (page : ℕ) → IsWellFormed p a → open_page (thread_at a t) ty ≡ Some page →
    IsOpenPage ty page (entry_at a.pages page)
open_page_used p a t ty page w e = elim (cases_lt t (length p.threads)) [
  | inl l ↦ IfSome-at (λ (x : ℕ). IsOpenPage ty x (entry_at a.pages x)) (open_page (thread_at a t) ty) page e ((w.threads t l).open_pages ty)
  | inr l ↦ (
      let past : length a.threads ≤ t = omega (arith, w.threads_length) in
      let same : thread_at a t ≡ ended_thread fresh_thread = get_or_past a.threads t (ended_thread fresh_thread) past in
      absurd (none_open ty page (subst (λ (th : Thread). open_page th ty ≡ Some page) same e)))
]
  where
    none_open : (ty : PageType) (page : ℕ) → open_page (ended_thread fresh_thread) ty ≡ Some page → ⊥
    none_open types.Cons page e = cc
    none_open types.Boxed page e = cc
    none_open types.Unboxed page e = cc

pub open_run_used : (p : Program) (a : NamedHeap) (t page : ℕ) → IsWellFormed p a → (thread_at a t).open_run ≡ Some page →
    IsOpenRun a.pages page
open_run_used p a t page w e = elim (cases_lt t (length p.threads)) [
  | inl l ↦ IfSome-at (IsOpenRun a.pages) (thread_at a t).open_run page e (w.threads t l).open_run
  | inr l ↦ (
      let past : length a.threads ≤ t = omega (arith, w.threads_length) in
      let same : thread_at a t ≡ ended_thread fresh_thread = get_or_past a.threads t (ended_thread fresh_thread) past in
      let none : None ≡ Some page = subst (λ (th : Thread). th.open_run ≡ Some page) same e in cc)
]

-- no two threads share an open page, nor an open run
pub record AreOwn (a : NamedHeap) : Type 0 where
  pub pages : (t u : ℕ) (ty other : PageType) (page : ℕ) → open_page (thread_at a t) ty ≡ Some page →
      open_page (thread_at a u) other ≡ Some page → (t ≡ u) × (ty ≡ other)
  pub runs : (t u : ℕ) (page : ℕ) → (thread_at a t).open_run ≡ Some page → (thread_at a u).open_run ≡ Some page → t ≡ u

-- what a thread has beside its regions is as it must be
pub record HasCells (objects : List (Option Object)) (th : Thread) : Type 0 where
  pub stack_length : length th.stack ≡ 16
  pub exact_length : length th.exact ≡ 16
  pub raws_length : length th.raws ≡ 8
  pub stack : AreLiving objects th.stack
  pub exact : AreLiving objects th.exact
  pub raws : AreBelow (2 ^ 64) th.raws
  pub pins : AreBelow (2 ^ 64) th.pins
  pub pins_most : length th.pins ≤ 32
  pub owed : IfSome th.owed (λ last. last ≤ 5)
  pub inhibits : th.ended ≡ true → th.inhibits ≡ 0

pub cells_of : {objects : List (Option Object)} {pages : List Entry} {th : Thread} → IsThread objects pages th → HasCells objects th
cells_of h = record {
  stack_length = h.stack_length;
  exact_length = h.exact_length;
  raws_length = h.raws_length;
  stack = h.stack;
  exact = h.exact;
  raws = h.raws;
  pins = h.pins;
  pins_most = h.pins_most;
  owed = h.owed;
  inhibits = h.inhibits;
}

-- a thread is as it must be if its cells are, and its open pages and its open run are open
pub thread_from : (objects : List (Option Object)) (pages : List Entry) (th : Thread) → HasCells objects th →
    ((ty : PageType) (page : ℕ) → open_page th ty ≡ Some page → IsOpenPage ty page (entry_at pages page)) →
    ((page : ℕ) → th.open_run ≡ Some page → IsOpenRun pages page) → IsThread objects pages th
thread_from objects pages th h are_open run = record {
  stack_length = h.stack_length;
  exact_length = h.exact_length;
  raws_length = h.raws_length;
  stack = h.stack;
  exact = h.exact;
  raws = h.raws;
  pins = h.pins;
  pins_most = h.pins_most;
  owed = h.owed;
  open_pages = λ ty. IfSome-from (λ (x : ℕ). IsOpenPage ty x (entry_at pages x)) (open_page th ty) (λ x e. are_open ty x e);
  open_run = IfSome-from (IsOpenRun pages) th.open_run (λ x e. run x e);
  inhibits = h.inhibits;
}

-- the heap with other threads, shared cells and counts; what lies on its pages stays
pub same_sound : (a : NamedHeap) (threads : List Thread) (shared : List Value) (counted triggered : ℕ) → IsSound a →
    IsSound (record a { threads = threads; shared = shared; counted = counted; triggered = triggered })
same_sound a threads shared counted triggered w = record {
  objects = w.objects;
  apart = w.apart;
  entries = w.entries;
  runs = w.runs;
  finalizers = w.finalizers;
  queue = w.queue;
}

-- a thread changes to one that is as it must be and has pages of its own
pub with_thread-own : (p : Program) (a : NamedHeap) (t : ℕ) (th : Thread) → IsWellFormed p a →
    (t < length p.threads → IsThread a.objects a.pages th) → AreOwn (with_thread a t th) →
    IsWellFormed p (with_thread a t th)
with_thread-own p a t th w well own = record {
  sound = same_sound a (set a.threads t th) a.shared a.counted a.triggered w.sound;
  pages_length = w.pages_length;
  threads_length = length-set a.threads t th ∙ w.threads_length;
  shared_length = w.shared_length;
  cum_length = w.cum_length;
  num_length = w.num_length;
  threads = λ u l. elim (thread_cases a t u th) [
    | inl e ↦ rw e (w.threads u l)
    | inr e ↦ rw e.2 (well (omega (arith, e.0)))
  ];
  shared = w.shared;
  objects_collected = w.objects_collected;
  pages_collected = w.pages_collected;
  triggered = w.triggered;
  own_pages = own.pages;
  own_runs = own.runs;
}

-- a thread has no more pages and runs than another
pub record HasNoMore (old new : Thread) : Type 0 where
  pub pages : (ty : PageType) (page : ℕ) → open_page new ty ≡ Some page → open_page old ty ≡ Some page
  pub run : (page : ℕ) → new.open_run ≡ Some page → old.open_run ≡ Some page

pub own_kept : (p : Program) (a : NamedHeap) (t : ℕ) (th : Thread) → IsWellFormed p a → HasNoMore (thread_at a t) th → AreOwn (with_thread a t th)
own_kept p a t th w no_more = record {
  pages = λ u v ty other page e f. w.own_pages u v ty other page (back u ty page e) (back v other page f);
  runs = λ u v page e f. w.own_runs u v page (back_run u page e) (back_run v page f);
}
  where
    back : (u : ℕ) (ty : PageType) (page : ℕ) → open_page (thread_at (with_thread a t th) u) ty ≡ Some page → open_page (thread_at a u) ty ≡ Some page
    back u ty page e = elim (thread_cases a t u th) [
      | inl same ↦ rw same at e
      | inr same ↦ rw same.0 (no_more.pages ty page (rw same.2 at e))
    ]

    back_run : (u : ℕ) (page : ℕ) → (thread_at (with_thread a t th) u).open_run ≡ Some page → (thread_at a u).open_run ≡ Some page
    back_run u page e = elim (thread_cases a t u th) [
      | inl same ↦ rw same at e
      | inr same ↦ rw same.0 (no_more.run page (rw same.2 at e))
    ]

pub with_thread-kept : (p : Program) (a : NamedHeap) (t : ℕ) (th : Thread) → IsWellFormed p a →
    (t < length p.threads → IsThread a.objects a.pages th) → HasNoMore (thread_at a t) th →
    IsWellFormed p (with_thread a t th)
with_thread-kept p a t th w well no_more = with_thread-own p a t th w well (own_kept p a t th w no_more)

-- the shared cells change
pub shared-kept : (p : Program) (a : NamedHeap) (i : ℕ) (v : Value) → IsWellFormed p a → IsLiving a.objects v →
    IsWellFormed p (record a { shared = set a.shared i v })
shared-kept p a i v w living = record {
  sound = same_sound a a.threads (set a.shared i v) a.counted a.triggered w.sound;
  pages_length = w.pages_length;
  threads_length = w.threads_length;
  shared_length = length-set a.shared i v ∙ w.shared_length;
  cum_length = w.cum_length;
  num_length = w.num_length;
  threads = w.threads;
  shared = AreLiving-set a.objects a.shared i v w.shared living;
  objects_collected = w.objects_collected;
  pages_collected = w.pages_collected;
  triggered = w.triggered;
  own_pages = w.own_pages;
  own_runs = w.own_runs;
}

-- the same open pages and run, by fields
pub same_regions : (old new : Thread) → new.cons_page ≡ old.cons_page → new.boxed_page ≡ old.boxed_page → new.unboxed_page ≡ old.unboxed_page →
    new.open_run ≡ old.open_run → HasNoMore old new
same_regions old new conses boxed unboxed run = record { pages = pages; run = λ page e. sym run ∙ e }
  where
    pages : (ty : PageType) (page : ℕ) → open_page new ty ≡ Some page → open_page old ty ≡ Some page
    pages types.Cons page e = sym conses ∙ e
    pages types.Boxed page e = sym boxed ∙ e
    pages types.Unboxed page e = sym unboxed ∙ e

-- a thread's cells change, and it has no more pages and runs than before
pub cells-kept : (p : Program) (a : NamedHeap) (t : ℕ) (th : Thread) → IsWellFormed p a →
    (t < length p.threads → HasCells a.objects th) → HasNoMore (thread_at a t) th → IsWellFormed p (with_thread a t th)
cells-kept p a t th w cells no_more = with_thread-kept p a t th w
    (λ l. thread_from a.objects a.pages th (cells l)
    (λ ty page e. open_page_used p a t ty page w (no_more.pages ty page e)) (λ page e. open_run_used p a t page w (no_more.run page e)))
    no_more

pub stack-cells : (objects : List (Option Object)) (th : Thread) (i : ℕ) (v : Value) → HasCells objects th → IsLiving objects v →
    HasCells objects (record th { stack = set th.stack i v })
stack-cells objects th i v h living = record {
  stack_length = length-set th.stack i v ∙ h.stack_length;
  exact_length = h.exact_length;
  raws_length = h.raws_length;
  stack = AreLiving-set objects th.stack i v h.stack living;
  exact = h.exact;
  raws = h.raws;
  pins = h.pins;
  pins_most = h.pins_most;
  owed = h.owed;
  inhibits = h.inhibits;
}

pub exact-cells : (objects : List (Option Object)) (th : Thread) (i : ℕ) (v : Value) → HasCells objects th → IsLiving objects v →
    HasCells objects (record th { exact = set th.exact i v })
exact-cells objects th i v h living = record {
  stack_length = h.stack_length;
  exact_length = length-set th.exact i v ∙ h.exact_length;
  raws_length = h.raws_length;
  stack = h.stack;
  exact = AreLiving-set objects th.exact i v h.exact living;
  raws = h.raws;
  pins = h.pins;
  pins_most = h.pins_most;
  owed = h.owed;
  inhibits = h.inhibits;
}

-- a living value is put into a cell
pub with_cell-kept : (p : Program) (a : NamedHeap) (t : ℕ) (c : Cell) (v : Value) → IsWellFormed p a → IsLiving a.objects v →
    IsWellFormed p (with_cell a t c v)
with_cell-kept p a t (Stack i) v w living =
    let th = thread_at a t in
    cells-kept p a t (record th { stack = set th.stack i v }) w (λ l. stack-cells a.objects th i v (cells_of (w.threads t l)) living)
    (same_regions th (record th { stack = set th.stack i v }) refl refl refl refl)
with_cell-kept p a t (Exact i) v w living =
    let th = thread_at a t in
    cells-kept p a t (record th { exact = set th.exact i v }) w (λ l. exact-cells a.objects th i v (cells_of (w.threads t l)) living)
    (same_regions th (record th { exact = set th.exact i v }) refl refl refl refl)
with_cell-kept p a t (Shared i) v w living = shared-kept p a i v w living

-- a thread goes on in its script
pub done-cells : (objects : List (Option Object)) (th : Thread) (n : ℕ) → HasCells objects th → HasCells objects (record th { done = n })
done-cells objects th n h = record {
  stack_length = h.stack_length;
  exact_length = h.exact_length;
  raws_length = h.raws_length;
  stack = h.stack;
  exact = h.exact;
  raws = h.raws;
  pins = h.pins;
  pins_most = h.pins_most;
  owed = h.owed;
  inhibits = h.inhibits;
}

pub advance-kept : (p : Program) (a : NamedHeap) (t : ℕ) → IsWellFormed p a → IsWellFormed p (advance a t)
advance-kept p a t w =
    let th = thread_at a t in
    cells-kept p a t (record th { done = th.done + 1 }) w (λ l. done-cells a.objects th (th.done + 1) (cells_of (w.threads t l)))
    (same_regions th (record th { done = th.done + 1 }) refl refl refl refl)

-- a thread before its first event and after its end
pub fresh_cells : (objects : List (Option Object)) (n : ℕ) (ended : Bool) → HasCells objects (record fresh_thread { done = n; ended = ended })
fresh_cells objects n ended = record {
  stack_length = refl;
  exact_length = refl;
  raws_length = refl;
  stack = AreLiving-zeros objects 16;
  exact = AreLiving-zeros objects 16;
  raws = AreBelow-zeros (2 ^ 64) 8 (omega arith);
  pins = AreBelow-nil (2 ^ 64) (omega arith);
  pins_most = omega arith;
  owed = tt;
  inhibits = λ e. refl;
}

pub no_pages : (n : ℕ) (ended : Bool) (ty : PageType) (page : ℕ) → open_page (record fresh_thread { done = n; ended = ended }) ty ≡ Some page → ⊥
no_pages n ended types.Cons page e = cc
no_pages n ended types.Boxed page e = cc
no_pages n ended types.Unboxed page e = cc

pub fresh_is_thread : (objects : List (Option Object)) (pages : List Entry) (n : ℕ) (ended : Bool) →
    IsThread objects pages (record fresh_thread { done = n; ended = ended })
fresh_is_thread objects pages n ended = thread_from objects pages (record fresh_thread { done = n; ended = ended }) (fresh_cells objects n ended)
    (λ ty page e. absurd (no_pages n ended ty page e)) (λ page e. cc)

pub ended-kept : (p : Program) (a : NamedHeap) (t : ℕ) → IsWellFormed p a → IsWellFormed p (with_thread a t (ended_thread (thread_at a t)))
ended-kept p a t w =
    let n = (thread_at a t).done in
    cells-kept p a t (ended_thread (thread_at a t)) w (λ l. fresh_cells a.objects n true)
    (record { pages = λ ty page e. absurd (no_pages n true ty page e); run = λ page e. cc })

-- the start of a program
pub start_thread : (p : Program) (t : ℕ) → ((n : ℕ) × (ended : Bool) × (thread_at (start p) t ≡ record fresh_thread { done = n; ended = ended }))
unfolding start
start_thread p t = elim (cases_lt t (length p.threads)) [
  | inl l ↦ (0, false, get_or-map (λ _. fresh_thread) p.threads t [] (ended_thread fresh_thread) l)
  | inr l ↦ (
      let past : length (map (λ _. fresh_thread) p.threads) ≤ t = omega (arith, length-map p.threads (λ _. fresh_thread)) in
      (0, true, get_or_past (map (λ _. fresh_thread) p.threads) t (ended_thread fresh_thread) past))
]

pub start_free : (p : Program) (i : ℕ) → entry_at (start p).pages i ≡ entries.Free
unfolding start
start_free p i = elim (cases_lt i p.pages) [
  | inl l ↦ get_or-replicate p.pages i entries.Free entries.Free l
  | inr l ↦ (
      let past : length (replicate p.pages entries.Free) ≤ i = omega (arith, length-replicate p.pages entries.Free) in
      get_or_past (replicate p.pages entries.Free) i entries.Free past)
]

pub start-sound : (p : Program) → IsSound (start p)
unfolding start
start-sound p = record {
  objects = λ name o e. absurd (none-some o e);
  apart = λ x y o q h e f. absurd (none-some o e);
  entries = λ page. rw (start_free p page) tt;
  runs = λ page. rw (start_free p page) tt;
  finalizers = All-nil (IsFinalizer []);
  queue = AreBelow-nil (2 ^ 32) (omega arith);
}

pub start-well_formed : (p : Program) → IsWellFormed p (start p)
unfolding start
start-well_formed p = record {
  sound = start-sound p;
  pages_length = length-replicate p.pages entries.Free;
  threads_length = length-map p.threads (λ _. fresh_thread);
  shared_length = refl;
  cum_length = refl;
  num_length = refl;
  threads = λ t l. let s = start_thread p t in rw s.2 (fresh_is_thread [] (replicate p.pages entries.Free) s.0 s.1);
  shared = AreLiving-zeros [] 16;
  objects_collected = λ name o e. absurd (none-some o e);
  pages_collected = λ page. rw (start_free p page) tt;
  triggered = omega arith;
  own_pages = λ t u ty other page e f. let s = start_thread p t in absurd (no_pages s.0 s.1 ty page (rw s.2 at e));
  own_runs = λ t u page e f. let s = start_thread p t in let none : None ≡ Some page = rw s.2 at e in cc;
}
