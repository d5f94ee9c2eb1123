-- A well-formed heap stays well-formed when a thread opens a region.
use Rattle.std.proofs.Common.{◌≡◌, ◌≢◌, ℕ, ◌+◌, ◌-◌, ◌<◌, ◌≤◌, List, ◌++◌, length, Option, Some, true, ◌⊎◌, inl, inr, refl, sym, ◌∙◌, subst, ap, arith, get_or, take, drop, replicate}
use Rattle.std.proofs.lemmas.Bool.{cases_lt, cases_eq, eq-eqb, ne_eqb}
use Rattle.std.proofs.lemmas.List.{length-append, length-take-le, length-drop, length-replicate, get_or-take, get_or-drop, get_or-replicate, get_or_append_left, get_or-append_right}
use Rattle.std.specs.Prelude.{if◌then◌else◌, ◌==◌}
use Rattle.heap_terms.specs.declared.kinds.PageType.{PageType}
use Rattle.heap_terms.specs.declared.kinds.PageType.TheVariants as types
use Rattle.heap_terms.specs.declared.pages.Entry.{Entry}
use Rattle.heap_terms.specs.declared.pages.Entry.TheVariants.{Free, Used}
use Rattle.heap_terms.specs.declared.programs.Program.{Program}
use Rattle.heap_terms.specs.Heap.{NamedHeap, Thread, entry_at, thread_at, with_thread, open_page, with_open_page}
use Rattle.heap_terms.specs.Objects.{Object}
use Rattle.heap_terms.specs.Regions.{IsFreeRun, is_free, with_run, opened}
use Rattle.heap_terms.specs.OnPages.{IsEntry, IsInRun}
use Rattle.heap_terms.specs.Sound.{IsSound}
use Rattle.heap_terms.specs.WellFormed.{IsWellFormed, IsThread, IsOpenPage, IsOpenRun, IsOpenRunPage}
use Rattle.heap_laws.proofs.Lists.Places.{IfSome-at}
use Rattle.heap_laws.proofs.WellFormed.PagesStay.{EntryStays-same, PagesStay, IsPlaced-stays, StaysInRun-from, IsInRun-stays, IsOpenPage-stays, IsOpenRun-stays}
use Rattle.heap_laws.proofs.WellFormed.Threads.{AreOwn, HasCells, cells_of, thread_from, with_thread-own, thread_cases, open_page_used, open_run_used}

-- the entries while a run is open: those of the run, and the others
pub run_length : (pages : List Entry) (first k : ℕ) (ty : PageType) → first + k ≤ length pages → length (with_run pages first k ty) ≡ length pages
run_length pages first k ty inside =
    let e = Used ty 0 0 first k in
    let front : length (take first pages) ≡ first = length-take-le first pages (omega arith) in
    let back = length-drop (first + k) pages in
    length-append (take first pages ++ replicate k e) (drop (first + k) pages)
    ∙ omega (arith, length-append (take first pages) (replicate k e), length-replicate k e, front, back)

pub run_entry : (pages : List Entry) (first k : ℕ) (ty : PageType) (i : ℕ) → first + k ≤ length pages → first ≤ i → i < first + k →
    entry_at (with_run pages first k ty) i ≡ Used ty 0 0 first k
run_entry pages first k ty i inside low high =
    let e = Used ty 0 0 first k in
    let front : length (take first pages) ≡ first = length-take-le first pages (omega arith) in
    let two : length (take first pages ++ replicate k e) ≡ first + k = omega (arith, length-append (take first pages) (replicate k e), length-replicate k e, front) in
    get_or_append_left (take first pages ++ replicate k e) (drop (first + k) pages) Free i (omega (arith, two))
    ∙ get_or-append_right (take first pages) (replicate k e) first i Free front low
    ∙ get_or-replicate k (i - first) e Free (omega arith)

pub other_entry : (pages : List Entry) (first k : ℕ) (ty : PageType) (i : ℕ) → first + k ≤ length pages → (i < first) ⊎ (first + k ≤ i) →
    entry_at (with_run pages first k ty) i ≡ entry_at pages i
other_entry pages first k ty i inside (inl low) =
    let e = Used ty 0 0 first k in
    let front : length (take first pages) ≡ first = length-take-le first pages (omega arith) in
    let two : length (take first pages ++ replicate k e) ≡ first + k = omega (arith, length-append (take first pages) (replicate k e), length-replicate k e, front) in
    get_or_append_left (take first pages ++ replicate k e) (drop (first + k) pages) Free i (omega (arith, two))
    ∙ get_or_append_left (take first pages) (replicate k e) Free i (omega (arith, front))
    ∙ get_or-take first pages i Free low
other_entry pages first k ty i inside (inr high) =
    let e = Used ty 0 0 first k in
    let front : length (take first pages) ≡ first = length-take-le first pages (omega arith) in
    let two : length (take first pages ++ replicate k e) ≡ first + k = omega (arith, length-append (take first pages) (replicate k e), length-replicate k e, front) in
    let there : first + k + (i - (first + k)) ≡ i = omega arith in
    get_or-append_right (take first pages ++ replicate k e) (drop (first + k) pages) (first + k) i Free two high
    ∙ get_or-drop (first + k) pages (i - (first + k)) Free
    ∙ ap (λ (j : ℕ). get_or pages j Free) there

pub free_is : (e : Entry) → is_free e ≡ true → e ≡ Free
free_is Free h = refl
free_is (Used ty g fill first n) h = cc

pub run_cases : (pages : List Entry) (first k : ℕ) (ty : PageType) (i : ℕ) → IsFreeRun pages first k →
    (entry_at (with_run pages first k ty) i ≡ entry_at pages i)
    ⊎ ((first ≤ i) × (i < first + k) × (entry_at (with_run pages first k ty) i ≡ Used ty 0 0 first k) × (entry_at pages i ≡ Free))
run_cases pages first k ty i run = elim (cases_lt i first) [
  | inl low ↦ inl (other_entry pages first k ty i run.inside (inl low))
  | inr low ↦ elim (cases_lt i (first + k)) [
    | inr high ↦ inl (other_entry pages first k ty i run.inside (inr high))
    | inl high ↦ inr (low, high, run_entry pages first k ty i run.inside low high, free_is (entry_at pages i) (run.free i low high))
  ]
]

pub run_stays : (pages : List Entry) (first k : ℕ) (ty : PageType) → IsFreeRun pages first k → PagesStay pages (with_run pages first k ty)
run_stays pages first k ty run = record {
  lengths = run_length pages first k ty run.inside;
  each = λ i. elim (run_cases pages first k ty i run) [
    | inl same ↦ rw same (EntryStays-same (entry_at pages i))
    | inr new ↦ rw new.3 tt
  ];
}

-- threads stay well-formed while pages stay
pub pages_thread : (objects : List (Option Object)) (old new : List Entry) (th : Thread) → PagesStay old new → IsThread objects old th → IsThread objects new th
pages_thread objects old new th s h = thread_from objects new th (cells_of h)
    (λ ty x e. IsOpenPage-stays ty x (entry_at old x) (entry_at new x) (s.each x)
    (IfSome-at (λ (x : ℕ). IsOpenPage ty x (entry_at old x)) (open_page th ty) x e (h.open_pages ty)))
    (λ x e. IsOpenRun-stays old new x s (IfSome-at (IsOpenRun old) th.open_run x e h.open_run))

-- what lies on pages that stay is sound, where each page that was free is in its run
pub sound_pages : (a : NamedHeap) (new : List Entry) → PagesStay a.pages new → IsSound a → ((page : ℕ) → IsEntry (entry_at new page)) →
    ((page : ℕ) → entry_at a.pages page ≡ Free → IsInRun new page (entry_at new page)) → IsSound (record a { pages = new })
sound_pages a new s w entries taken = record {
  objects = λ name o e. let h = w.objects name o e in record {
    generation = h.generation;
    shape = h.shape;
    contents = h.contents;
    placed = IsPlaced-stays a.pages new o s h.placed;
  };
  apart = w.apart;
  entries = entries;
  runs = λ page. IsInRun-stays a.pages new page s.lengths (λ i. StaysInRun-from (entry_at a.pages i) (entry_at new i) (s.each i))
      (entry_at a.pages page) (entry_at new page) (StaysInRun-from (entry_at a.pages page) (entry_at new page) (s.each page)) (w.runs page) (taken page);
  finalizers = w.finalizers;
  queue = w.queue;
}

-- a page that was taken is in its run
pub run_in_run : (pages : List Entry) (first k : ℕ) (ty : PageType) (page : ℕ) → first + k ≤ length pages → first ≤ page → page < first + k →
    IsInRun (with_run pages first k ty) page (Used ty 0 0 first k)
run_in_run pages first k ty page inside low high = (
  low,
  high,
  omega (arith, run_length pages first k ty inside),
  (λ i l. rw (run_entry pages first k ty (first + i) inside (omega arith) (omega arith)) (refl, refl, refl, refl)),
)

-- the pages of a run are taken
pub run-kept : (p : Program) (a : NamedHeap) (ty : PageType) (first k : ℕ) → IsWellFormed p a → IsFreeRun a.pages first k →
    IsWellFormed p (record a { pages = with_run a.pages first k ty })
run-kept p a ty first k w run =
    let new = with_run a.pages first k ty in
    let stay = run_stays a.pages first k ty run in
    record {
      sound = sound_pages a new stay w.sound
          (λ page. elim (run_cases a.pages first k ty page run) [
            | inl same ↦ rw same (w.sound.entries page)
            | inr taken ↦ rw taken.2 (omega arith, record { even = refl; most = omega arith })
          ])
          (λ page free. elim (run_cases a.pages first k ty page run) [
            | inl same ↦ rw (same, free) tt
            | inr taken ↦ rw taken.2 (run_in_run a.pages first k ty page run.inside taken.0 taken.1)
          ]);
      pages_length = stay.lengths ∙ w.pages_length;
      threads_length = w.threads_length;
      shared_length = w.shared_length;
      cum_length = w.cum_length;
      num_length = w.num_length;
      threads = λ t l. pages_thread a.objects a.pages new (thread_at a t) stay (w.threads t l);
      shared = w.shared;
      objects_collected = w.objects_collected;
      pages_collected = λ page. elim (run_cases a.pages first k ty page run) [
        | inl same ↦ rw same (w.pages_collected page)
        | inr taken ↦ rw taken.2 (omega arith)
      ];
      triggered = w.triggered;
      own_pages = w.own_pages;
      own_runs = w.own_runs;
    }

-- what is open after a page was opened
pub opened_page_cases : (th : Thread) (ty : PageType) (first : ℕ) (other : PageType) (page : ℕ) → open_page (with_open_page th ty first) other ≡ Some page →
    (open_page th other ≡ Some page) ⊎ ((other ≡ ty) × (page ≡ first))
opened_page_cases th types.Cons first types.Cons page e = inr (refl, cc)
opened_page_cases th types.Cons first types.Boxed page e = inl e
opened_page_cases th types.Cons first types.Unboxed page e = inl e
opened_page_cases th types.Boxed first types.Cons page e = inl e
opened_page_cases th types.Boxed first types.Boxed page e = inr (refl, cc)
opened_page_cases th types.Boxed first types.Unboxed page e = inl e
opened_page_cases th types.Unboxed first types.Cons page e = inl e
opened_page_cases th types.Unboxed first types.Boxed page e = inl e
opened_page_cases th types.Unboxed first types.Unboxed page e = inr (refl, cc)

-- all else of the thread stays
pub record HasSameCells (old new : Thread) : Type 0 where
  pub done : new.done ≡ old.done
  pub stack : new.stack ≡ old.stack
  pub exact : new.exact ≡ old.exact
  pub raws : new.raws ≡ old.raws
  pub owed : new.owed ≡ old.owed
  pub pins : new.pins ≡ old.pins
  pub inhibits : new.inhibits ≡ old.inhibits
  pub ended : new.ended ≡ old.ended

pub same_cells : (objects : List (Option Object)) (old new : Thread) → HasSameCells old new → HasCells objects old → HasCells objects new
same_cells objects old new same h = record {
  stack_length = rw same.stack h.stack_length;
  exact_length = rw same.exact h.exact_length;
  raws_length = rw same.raws h.raws_length;
  stack = rw same.stack h.stack;
  exact = rw same.exact h.exact;
  raws = rw same.raws h.raws;
  pins = rw same.pins h.pins;
  pins_most = rw same.pins h.pins_most;
  owed = rw same.owed h.owed;
  inhibits = λ e. same.inhibits ∙ h.inhibits (sym same.ended ∙ e);
}

pub with_open_page-cells : (th : Thread) (ty : PageType) (first : ℕ) → HasSameCells th (with_open_page th ty first)
with_open_page-cells th types.Cons first = record { done = refl; stack = refl; exact = refl; raws = refl; owed = refl; pins = refl; inhibits = refl; ended = refl }
with_open_page-cells th types.Boxed first = record { done = refl; stack = refl; exact = refl; raws = refl; owed = refl; pins = refl; inhibits = refl; ended = refl }
with_open_page-cells th types.Unboxed first = record { done = refl; stack = refl; exact = refl; raws = refl; owed = refl; pins = refl; inhibits = refl; ended = refl }

pub with_open_page-run : (th : Thread) (ty : PageType) (first : ℕ) → (with_open_page th ty first).open_run ≡ th.open_run
with_open_page-run th types.Cons first = refl
with_open_page-run th types.Boxed first = refl
with_open_page-run th types.Unboxed first = refl

-- the thread after it opened a run, and what is open in it
abbrev pub thread_with_run : Thread → PageType → ℕ → ℕ → Thread
thread_with_run th ty first k = if k == 1 then with_open_page th ty first else record th { open_run = Some first }

pub record OpensRun (th : Thread) (ty : PageType) (first k : ℕ) (new : Thread) : Type 0 where
  pub cells : HasSameCells th new
  pub pages : (other : PageType) (page : ℕ) → open_page new other ≡ Some page →
      (open_page th other ≡ Some page) ⊎ ((other ≡ ty) × (page ≡ first) × (k ≡ 1))
  pub run : (page : ℕ) → new.open_run ≡ Some page → (th.open_run ≡ Some page) ⊎ ((page ≡ first) × (k ≢ 1))

pub opens_run : (th : Thread) (ty : PageType) (first k : ℕ) → OpensRun th ty first k (thread_with_run th ty first k)
opens_run th ty first k = elim (cases_eq k 1) [
  | inl one ↦ rw (eq-eqb k 1 one) (record {
    cells = with_open_page-cells th ty first;
    pages = λ other page e. elim (opened_page_cases th ty first other page e) [ inl old ↦ inl old | inr new ↦ inr (new.0, new.1, one) ];
    run = λ page e. inl (sym (with_open_page-run th ty first) ∙ e);
  })
  | inr more ↦ rw (ne_eqb k 1 more) (record {
    cells = record { done = refl; stack = refl; exact = refl; raws = refl; owed = refl; pins = refl; inhibits = refl; ended = refl };
    pages = λ other page e. inl (same_pages th first other page e);
    run = λ page e. inr (cc, more);
  })
]
  where
    same_pages : (th : Thread) (first : ℕ) (other : PageType) (page : ℕ) → open_page (record th { open_run = Some first }) other ≡ Some page → open_page th other ≡ Some page
    same_pages th first types.Cons page e = e
    same_pages th first types.Boxed page e = e
    same_pages th first types.Unboxed page e = e

-- where nobody has the new page, the threads' pages and runs are their own still
pub own_opened : (p : Program) (b : NamedHeap) (t : ℕ) (new : Thread) (ty : PageType) (first k : ℕ) → IsWellFormed p b →
    OpensRun (thread_at b t) ty first k new → ((u : ℕ) (other : PageType) → open_page (thread_at b u) other ≡ Some first → ⊥) →
    ((u : ℕ) → (thread_at b u).open_run ≡ Some first → ⊥) → AreOwn (with_thread b t new)
own_opened p b t new ty first k w opens nobody nobody_run = record {
  pages = λ u v one other page e f. elim (back u one page e) [
    | inl h ↦ elim (back v other page f) [
      | inl g ↦ w.own_pages u v one other page h g
      | inr g ↦ absurd (nobody u one (h ∙ ap {B = Option ℕ} (λ (x : ℕ). Some x) g.2))
    ]
    | inr h ↦ elim (back v other page f) [
      | inl g ↦ absurd (nobody v other (g ∙ ap {B = Option ℕ} (λ (x : ℕ). Some x) h.2))
      | inr g ↦ (h.0 ∙ sym g.0, h.1 ∙ sym g.1)
    ]
  ];
  runs = λ u v page e f. elim (back_run u page e) [
    | inl h ↦ elim (back_run v page f) [
      | inl g ↦ w.own_runs u v page h g
      | inr g ↦ absurd (nobody_run u (h ∙ ap {B = Option ℕ} (λ (x : ℕ). Some x) g.1))
    ]
    | inr h ↦ elim (back_run v page f) [
      | inl g ↦ absurd (nobody_run v (g ∙ ap {B = Option ℕ} (λ (x : ℕ). Some x) h.1))
      | inr g ↦ h.0 ∙ sym g.0
    ]
  ];
}
  where
    back : (u : ℕ) (other : PageType) (page : ℕ) → open_page (thread_at (with_thread b t new) u) other ≡ Some page →
        (open_page (thread_at b u) other ≡ Some page) ⊎ ((u ≡ t) × (other ≡ ty) × (page ≡ first))
    back u other page e = elim (thread_cases b t u new) [
      | inl same ↦ inl (rw same at e)
      | inr same ↦ elim (opens.pages other page (rw same.2 at e)) [
        | inl old ↦ inl (rw same.0 old)
        | inr fresh ↦ inr (same.0, fresh.0, fresh.1)
      ]
    ]

    back_run : (u : ℕ) (page : ℕ) → (thread_at (with_thread b t new) u).open_run ≡ Some page →
        ((thread_at b u).open_run ≡ Some page) ⊎ ((u ≡ t) × (page ≡ first))
    back_run u page e = elim (thread_cases b t u new) [
      | inl same ↦ inl (rw same at e)
      | inr same ↦ elim (opens.run page (rw same.2 at e)) [
        | inl old ↦ inl (rw same.0 old)
        | inr fresh ↦ inr (same.0, fresh.0)
      ]
    ]

-- what was opened is open
pub new_page_open : (pages : List Entry) (first k : ℕ) (ty other : PageType) (page : ℕ) → first + k ≤ length pages → other ≡ ty → page ≡ first → k ≡ 1 →
    IsOpenPage other page (entry_at (with_run pages first k ty) page)
new_page_open pages first k ty other page inside same at one =
    rw (run_entry pages first k ty page inside (omega arith) (omega arith)) (sym same, refl, sym at, one)

pub new_run_open : (pages : List Entry) (first k : ℕ) (ty : PageType) (page : ℕ) → first + k ≤ length pages → page ≡ first → 1 ≤ k → k ≢ 1 →
    IsOpenRun (with_run pages first k ty) page
new_run_open pages first k ty page inside at some more = record {
  ty = ty;
  k = k;
  long = omega arith;
  inside = (let e = run_length pages first k ty inside in omega arith);
  each = λ i l. rw (run_entry pages first k ty (page + i) inside (omega arith) (omega arith)) (refl, refl, refl, sym at, refl);
}

-- a run that is open is not free
pub open_run_taken : (pages : List Entry) (first : ℕ) → IsOpenRun pages first → entry_at pages first ≡ Free → ⊥
open_run_taken pages first h free =
    let two = h.long in
    let page : IsOpenRunPage h.ty first h.k (entry_at pages (first + 0)) = h.each 0 (omega arith) in
    let same : first + 0 ≡ first = omega arith in
    let page' : IsOpenRunPage h.ty first h.k (entry_at pages first) = subst (λ (x : ℕ). IsOpenRunPage h.ty first h.k (entry_at pages x)) same page in
    rw free at page'

-- a thread opens a run of one page or more
pub opened-kept : (p : Program) (a : NamedHeap) (t : ℕ) (ty : PageType) (first k : ℕ) → IsWellFormed p a → IsFreeRun a.pages first k → 1 ≤ k →
    IsWellFormed p (opened a t ty first k)
unfolding opened
opened-kept p a t ty first k w run some =
    let pages = with_run a.pages first k ty in
    let b : NamedHeap = record a { pages = pages } in
    let wb : IsWellFormed p b = run-kept p a ty first k w run in
    let th = thread_at a t in
    let new = thread_with_run th ty first k in
    let opens = opens_run th ty first k in
    let free : entry_at a.pages first ≡ Free = free_is (entry_at a.pages first) (run.free first (omega arith) (omega arith)) in
    let nobody : (u : ℕ) (other : PageType) → open_page (thread_at b u) other ≡ Some first → ⊥ = λ u other e. rw free at (open_page_used p a u other first w e) in
    let nobody_run : (u : ℕ) → (thread_at b u).open_run ≡ Some first → ⊥ = λ u e. open_run_taken a.pages first (open_run_used p a u first w e) free in
    with_thread-own p b t new wb
    (λ l. thread_from a.objects pages new (same_cells a.objects th new opens.cells (cells_of (wb.threads t l)))
    (λ other page e. elim (opens.pages other page e) [
      | inl old ↦ open_page_used p b t other page wb old
      | inr fresh ↦ new_page_open a.pages first k ty other page run.inside fresh.0 fresh.1 fresh.2
    ])
    (λ page e. elim (opens.run page e) [
      | inl old ↦ open_run_used p b t page wb old
      | inr fresh ↦ new_run_open a.pages first k ty page run.inside fresh.0 some fresh.1
    ]))
    (own_opened p b t new ty first k wb opens nobody nobody_run)
