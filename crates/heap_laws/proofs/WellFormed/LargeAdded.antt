-- A well-formed heap stays well-formed when a large object is put into its thread's open run.
use Rattle.std.proofs.Common.{◌≡◌, ◌≢◌, ℕ, suc, ◌+◌, ◌-◌, ◌*◌, ◌/◌, ◌%◌, ◌<◌, ◌≤◌, List, [], ◌∷◌, ◌++◌, length, take, drop, replicate, set, Option, Some, None, true, false, ◌⊎◌, inl, inr, refl, sym, ◌∙◌, subst, ap, arith}
use Rattle.std.proofs.lemmas.Bool.{cases_lt, cases_eq, and_parts, eqb-true, false≢true}
use Rattle.std.proofs.lemmas.List.{length-append, length-take-le, length-drop, length-replicate, length-set, get_or-take, get_or-drop, get_or-replicate, get_or_append_left, get_or-append_right}
use Rattle.heap_terms.specs.declared.kinds.PageType.{PageType}
use Rattle.heap_terms.specs.declared.kinds.PageType.TheVariants as types
use Rattle.heap_terms.specs.declared.pages.Entry.{Entry}
use Rattle.heap_terms.specs.declared.pages.Entry.TheVariants.{Free, Used}
use Rattle.heap_terms.specs.declared.programs.Program.{Program}
use Rattle.heap_terms.specs.Heap.{NamedHeap, Thread, entry_at, thread_at, with_thread, open_page}
use Rattle.heap_terms.specs.Layout.{page_words, page_type_of}
use Rattle.heap_terms.specs.Living.{HoldsLiving, IsShaped}
use Rattle.heap_terms.specs.Objects.{Object, kind_of, payload_of, words_of_object}
use Rattle.heap_terms.specs.OnPages.{IsPlaced, IsOnPage, IsPageOfRun, AreApart, IsFill, IsEntry, IsInRun}
use Rattle.heap_terms.specs.Regions.{is_small, pages_needed, same_type, entry_is_run, run_has_room, with_fill, with_large}
use Rattle.heap_terms.specs.WellFormed.{IsWellFormed, IsThread, IsOpenPage, IsOpenRun, IsOpenRunPage}
use Rattle.heap_laws.proofs.WellFormed.LivingValues.{AllStay, AreLiving-stays, push_stays}
use Rattle.heap_laws.proofs.WellFormed.ObjectAdded.{added-sound, by_name, cells_stay, entry_fill}
use Rattle.heap_laws.proofs.WellFormed.PagesStay.{StaysInRun, StaysInRun-same, IsInRun-stays, size_even, large_least, large_needs}
use Rattle.heap_laws.proofs.WellFormed.Threads.{HasCells, cells_of, thread_from, changed_thread, other_thread, own_kept, open_page_used, open_run_used, same_sound, HasNoMore}
use Rattle.pass_laws.proofs.Sizes.{apart_above}

-- the open run of a thread, which was opened for an object of a type and of some pages
pub record HasRun (a : NamedHeap) (t : ℕ) (ty : PageType) (k : ℕ) : Type 0 where
  pub first : ℕ
  pub open_is : (thread_at a t).open_run ≡ Some first
  pub long : 2 ≤ k
  pub inside : first + k ≤ length a.pages
  pub each : (i : ℕ) → i < k → entry_at a.pages (first + i) ≡ Used ty 0 0 first k

open_run_entry : (ty : PageType) (start k : ℕ) (e : Entry) → IsOpenRunPage ty start k e → e ≡ Used ty 0 0 start k
open_run_entry ty start k Free h = absurd h
open_run_entry ty start k (Used other g fill first pages) h = rw (h.0, h.1, h.2, h.3, h.4) refl

same_type-true : (x y : PageType) → same_type x y ≡ true → x ≡ y
same_type-true types.Cons types.Cons e = refl
same_type-true types.Cons types.Boxed e = cc
same_type-true types.Cons types.Unboxed e = cc
same_type-true types.Boxed types.Cons e = cc
same_type-true types.Boxed types.Boxed e = refl
same_type-true types.Boxed types.Unboxed e = cc
same_type-true types.Unboxed types.Cons e = cc
same_type-true types.Unboxed types.Boxed e = cc
same_type-true types.Unboxed types.Unboxed e = refl

run_parts : (pages : List Entry) (o : Option ℕ) (ty : PageType) (size : ℕ) → run_has_room pages o ty size ≡ true →
    (first : ℕ) × (o ≡ Some first) × (entry_is_run (entry_at pages first) ty (pages_needed size) ≡ true)
run_parts pages None ty size e = absurd (false≢true e)
run_parts pages (Some first) ty size e = (first, refl, e)

run_is : (e : Entry) (ty own : PageType) (start n k : ℕ) → entry_is_run e ty k ≡ true → e ≡ Used own 0 0 start n → (own ≡ ty) × (n ≡ k)
run_is e ty own start n k h is =
    let used : entry_is_run (Used own 0 0 start n) ty k ≡ true = rw is at h in
    let parts = and_parts (same_type own ty) _ used in
    (same_type-true own ty parts.0, eqb-true n k parts.1)

-- a large object has room in its thread's open run
pub has_run : (p : Program) (a : NamedHeap) (t : ℕ) (ty : PageType) (size : ℕ) → IsWellFormed p a → run_has_room a.pages (thread_at a t).open_run ty size ≡ true →
    HasRun a t ty (pages_needed size)
has_run p a t ty size w room =
    let found = run_parts a.pages (thread_at a t).open_run ty size room in
    let first = found.0 in
    let run = open_run_used p a t first w found.1 in
    let two = run.long in
    let start : entry_at a.pages (first + 0) ≡ Used run.ty 0 0 first run.k = open_run_entry run.ty first run.k (entry_at a.pages (first + 0)) (run.each 0 (omega arith)) in
    let zero : first + 0 ≡ first = omega arith in
    let at : entry_at a.pages first ≡ Used run.ty 0 0 first run.k = ap (λ (x : ℕ). entry_at a.pages x) (sym zero) ∙ start in
    let is = run_is (entry_at a.pages first) ty run.ty first run.k (pages_needed size) found.2 at in
    let count = is.1 in
    record {
      first = first;
      open_is = found.1;
      long = omega arith;
      inside = (let inside = run.inside in omega arith);
      each = λ i l. open_run_entry run.ty first run.k (entry_at a.pages (first + i)) (run.each i (omega arith))
          ∙ ap (λ (x : PageType). Used x 0 0 first run.k) is.0 ∙ ap (λ (x : ℕ). Used ty 0 0 first x) count;
    }

-- the pages of a run after a large object was put into it, and the others
pub record IsFilledRun (pages new : List Entry) (ty : PageType) (first k size : ℕ) : Type 0 where
  pub lengths : length new ≡ length pages
  pub below : (i : ℕ) → i < first → entry_at new i ≡ entry_at pages i
  pub above : (i : ℕ) → first + k ≤ i → entry_at new i ≡ entry_at pages i
  pub full : (i : ℕ) → i + 1 < k → entry_at new (first + i) ≡ Used ty 0 page_words first k
  pub last : entry_at new (first + (k - 1)) ≡ Used ty 0 (size - page_words * (k - 1)) first k

pub filled_run : (pages : List Entry) (ty : PageType) (first size : ℕ) → first + pages_needed size ≤ length pages → 1 ≤ pages_needed size →
    entry_at pages first ≡ Used ty 0 0 first (pages_needed size) → IsFilledRun pages (with_large pages first size) ty first (pages_needed size) size
filled_run pages ty first size inside least entry =
    let k = pages_needed size in
    let e = with_fill (entry_at pages first) page_words in
    let z = with_fill (entry_at pages first) (size - page_words * (k - 1)) in
    let full : e ≡ Used ty 0 page_words first k = ap (λ (x : Entry). with_fill x page_words) entry in
    let last : z ≡ Used ty 0 (size - page_words * (k - 1)) first k = ap (λ (x : Entry). with_fill x (size - page_words * (k - 1))) entry in
    let front = take first pages ++ replicate (k - 1) e in
    let rest = drop (first + k) pages in
    let first_length : length (take first pages) ≡ first = length-take-le first pages (omega arith) in
    let front_length : length front ≡ first + (k - 1) = length-append (take first pages) (replicate (k - 1) e) ∙ (let m = length-replicate (k - 1) e in omega arith) in
    record {
      lengths = length-append front (z ∷ rest) ∙ (let m = length-drop (first + k) pages in omega arith);
      below = λ i l. get_or_append_left front (z ∷ rest) Free i (omega arith)
          ∙ get_or_append_left (take first pages) (replicate (k - 1) e) Free i (omega arith) ∙ get_or-take first pages i Free l;
      above = λ i l. get_or-append_right front (z ∷ rest) (first + (k - 1)) i Free front_length (omega arith)
          ∙ (let at : i - (first + (k - 1)) ≡ suc (i - (first + k)) = omega arith in rw at (get_or-drop (first + k) pages (i - (first + k)) Free))
          ∙ ap (λ (q : ℕ). entry_at pages q) (let back : (first + k) + (i - (first + k)) ≡ i = omega arith in back);
      full = λ i l. get_or_append_left front (z ∷ rest) Free (first + i) (omega arith)
          ∙ get_or-append_right (take first pages) (replicate (k - 1) e) first (first + i) Free first_length (omega arith)
          ∙ get_or-replicate (k - 1) ((first + i) - first) e Free (omega arith) ∙ full;
      last = get_or-append_right front (z ∷ rest) (first + (k - 1)) (first + (k - 1)) Free front_length (omega arith)
          ∙ (let at : (first + (k - 1)) - (first + (k - 1)) ≡ 0 = omega arith in rw at refl) ∙ last;
    }

-- a page is as it was, or it is one of the run, which held nothing
abbrev pub IsRunFilled : List Entry → List Entry → PageType → ℕ → ℕ → ℕ → Type 0
IsRunFilled pages new ty first k i = (entry_at new i ≡ entry_at pages i)
    ⊎ ((fill : ℕ) × IsFill fill × (entry_at pages i ≡ Used ty 0 0 first k) × (entry_at new i ≡ Used ty 0 fill first k))

-- where a large object goes: into a run that was opened for it
pub record GoesInto (pages : List Entry) (o : Object) (first : ℕ) : Type 0 where
  pub large : is_small (words_of_object o) ≡ false
  pub young : o.generation ≡ 0
  pub place : o.place ≡ page_words * first
  pub inside : first + pages_needed (words_of_object o) ≤ length pages
  pub each : (i : ℕ) → i < pages_needed (words_of_object o) →
      entry_at pages (first + i) ≡ Used (page_type_of (kind_of o.contents)) 0 0 first (pages_needed (words_of_object o))

-- how many pages it needs, and that it fills all but the last
pub needs_just : (size : ℕ) → is_small size ≡ false → (2 ≤ pages_needed size) × (size ≤ page_words * pages_needed size) × (page_words * (pages_needed size - 1) < size)
needs_just size large =
    let least = large_least size large in
    let needs = large_needs size large in
    rw needs (omega arith, omega arith, omega arith)

module _ (pages : List Entry) (o : Object) (first : ℕ) (g : GoesInto pages o first) where
  abbrev ty : PageType
  ty = page_type_of (kind_of o.contents)

  abbrev size : ℕ
  size = words_of_object o

  abbrev k : ℕ
  k = pages_needed size

  abbrev new : List Entry
  new = with_large pages first size

  count : (2 ≤ k) × (size ≤ page_words * k) × (page_words * (k - 1) < size)
  count = needs_just size g.large

  pub run : IsFilledRun pages new ty first k size
  run =
      let zero : first + 0 ≡ first = omega arith in
      let start : entry_at pages first ≡ Used ty 0 0 first k = ap (λ (x : ℕ). entry_at pages x) (sym zero) ∙ g.each 0 (let two = count.0 in omega arith) in
      filled_run pages ty first size g.inside (let two = count.0 in omega arith) start

  even : size % 2 ≡ 0
  even = size_even (kind_of o.contents) (payload_of o.contents)

  pub run_cases : (i : ℕ) → IsRunFilled pages new ty first k i
  run_cases i = elim (cases_lt i first) [
    | inl low ↦ inl (run.below i low)
    | inr low ↦ elim (cases_lt i (first + k)) [
      | inr high ↦ inl (run.above i high)
      | inl high ↦ (
          let at : first + (i - first) ≡ i = omega arith in
          let old : entry_at pages i ≡ Used ty 0 0 first k = subst (λ (x : ℕ). entry_at pages x ≡ Used ty 0 0 first k) at (g.each (i - first) (omega arith)) in
          elim (cases_lt ((i - first) + 1) k) [
            | inl more ↦ inr (
              page_words,
              record { even = refl; most = omega arith },
              old,
              subst (λ (x : ℕ). entry_at new x ≡ Used ty 0 page_words first k) at (run.full (i - first) more),
            )
            | inr end ↦ (
                let rest = size - page_words * (k - 1) in
                let two = count.0 in
                let enough = count.1 in
                let just = count.2 in
                let at' : first + (k - 1) ≡ i = omega arith in
                let is_even = even in
                inr (
                  rest,
                  record { even = omega arith; most = omega arith },
                  old,
                  subst (λ (x : ℕ). entry_at new x ≡ Used ty 0 rest first k) at' run.last,
                ))
          ])
    ]
  ]

  -- the new object lies in its run
  pub placed_there : IsPlaced new o
  placed_there =
      let place = g.place in
      let inside = g.inside in
      let two = count.0 in
      let enough = count.1 in
      let just = count.2 in
      let at_first : o.place / page_words ≡ first = omega arith in
      record {
        even = omega arith;
        inside = rw run.lengths (omega arith);
        small = λ small. absurd (false≢true (sym g.large ∙ small));
        large_start = λ _. omega arith;
        large = λ _ i l. rw at_first (elim (cases_lt (i + 1) k) [
          | inl more ↦ rw (run.full i more) (refl, sym g.young, sym at_first, refl, λ _. refl, λ e. absurd (omega arith))
          | inr end ↦ (
              let is : i ≡ k - 1 = omega arith in
              rw (is, run.last) (refl, sym g.young, sym at_first, refl, (λ m. absurd (omega arith)), λ _. omega arith))
        ]);
      }

  -- no object lay there
  not_small : (q : Object) → IsOnPage q (Used ty 0 0 first k) → ⊥
  not_small q h = (let two = count.0 in let one = h.3 in omega arith)

  not_large : (q : Object) (i : ℕ) → is_small (words_of_object q) ≡ false → i < pages_needed (words_of_object q) → IsPageOfRun q i (Used ty 0 0 first k) → ⊥
  not_large q i large l h =
      let just = needs_just (words_of_object q) large in
      let same : k ≡ pages_needed (words_of_object q) = h.3 in
      elim (cases_lt (i + 1) k) [
        | inl more ↦ (let full = h.4 more in omega arith)
        | inr end ↦ (let rest = h.5 (omega arith) in omega arith)
      ]

  -- so the others lie as before
  pub others_placed : (q : Object) → IsPlaced pages q → IsPlaced new q
  others_placed q h = record {
    even = h.even;
    inside = rw run.lengths h.inside;
    small = λ e. elim (run_cases (q.place / page_words)) [
      | inl same ↦ rw same (h.small e)
      | inr taken ↦ absurd (not_small q (rw taken.2 at (h.small e)))
    ];
    large_start = h.large_start;
    large = λ e i l. elim (run_cases (q.place / page_words + i)) [
      | inl same ↦ rw same (h.large e i l)
      | inr taken ↦ absurd (not_large q i e l (rw taken.2 at (h.large e i l)))
    ];
  }

  -- and apart from it
  pub others_apart : ((i : ℕ) → IsEntry (entry_at pages i)) → (q : Object) → IsPlaced pages q → AreApart q o
  others_apart entries q h = apart_above pages q o (λ i. (entry_fill (entry_at pages i) (entries i)).most) h (λ i from below under.
      let place = g.place in
      let enough = count.1 in
      let at : first + (i / 512 - first) ≡ i / 512 = omega arith in
      let there : entry_at pages (i / 512) ≡ Used ty 0 0 first k =
      subst (λ (x : ℕ). entry_at pages x ≡ Used ty 0 0 first k) at (g.each (i / 512 - first) (omega arith)) in
      let none : i % 512 < 0 = rw there at under in
      omega arith)

  stays_in_run : (i : ℕ) → StaysInRun (entry_at pages i) (entry_at new i)
  stays_in_run i = elim (run_cases i) [
    | inl same ↦ rw same (StaysInRun-same (entry_at pages i))
    | inr taken ↦ rw (taken.2, taken.3) (refl, refl, refl, refl)
  ]

  pub runs_stay : ((i : ℕ) → IsInRun pages i (entry_at pages i)) → (i : ℕ) → IsInRun new i (entry_at new i)
  runs_stay h i = IsInRun-stays pages new i run.lengths stays_in_run (entry_at pages i) (entry_at new i) (stays_in_run i) (h i)
      (λ free. elim (run_cases i) [
        | inl same ↦ rw (same, free) tt
        | inr taken ↦ (let never : Free ≡ Used ty 0 0 first k = sym free ∙ taken.2 in cc)
      ])

  pub entries_stay : ((i : ℕ) → IsEntry (entry_at pages i)) → (i : ℕ) → IsEntry (entry_at new i)
  entries_stay h i = elim (run_cases i) [
    | inl same ↦ rw same (h i)
    | inr taken ↦ rw taken.3 (omega arith, taken.1)
  ]

  -- open pages, and open runs that begin elsewhere, are as they were
  pub open_page_same : (other : PageType) (page : ℕ) → IsOpenPage other page (entry_at pages page) → entry_at new page ≡ entry_at pages page
  open_page_same other page h = elim (run_cases page) [
    | inl same ↦ same
    | inr taken ↦ absurd (not_one (rw taken.2 at h))
  ]
    where
      not_one : IsOpenPage other page (Used ty 0 0 first k) → ⊥
      not_one h = (let two = count.0 in let one = h.3 in omega arith)

  pub open_run_same : (start : ℕ) (h : IsOpenRun pages start) → start ≢ first → (i : ℕ) → i < h.k → entry_at new (start + i) ≡ entry_at pages (start + i)
  open_run_same start h differ i l = elim (run_cases (start + i)) [
    | inl same ↦ same
    | inr taken ↦ absurd (differ (starts (rw taken.2 at (h.each i l))))
  ]
    where
      starts : {other : PageType} {n : ℕ} → IsOpenRunPage other start n (Used ty 0 0 first k) → start ≡ first
      starts h = sym h.3

  pub open_runs_stay : (start : ℕ) → IsOpenRun pages start → start ≢ first → IsOpenRun new start
  open_runs_stay start h differ = record {
    ty = h.ty;
    k = h.k;
    long = h.long;
    inside = rw run.lengths h.inside;
    each = λ i l. rw (open_run_same start h differ i l) (h.each i l);
  }

-- a large object uses its thread's run up
abbrev pub without_run : Thread → Thread
without_run th = record th { open_run = None }

-- the heap after a large object was put into the run of thread t
abbrev pub heap_put : NamedHeap → ℕ → Object → ℕ → NamedHeap
heap_put a t o first = record (with_thread a t (without_run (thread_at a t)))
    { objects = a.objects ++ Some o ∷ []; pages = with_large a.pages first (words_of_object o) }

-- the threads have their cells, their pages and their runs still
put_thread : (p : Program) (a : NamedHeap) (t u : ℕ) (o : Object) (first : ℕ) → IsWellFormed p a → GoesInto a.pages o first → (thread_at a t).open_run ≡ Some first →
    u < length p.threads → IsThread (a.objects ++ Some o ∷ []) (with_large a.pages first (words_of_object o)) (thread_at (heap_put a t o first) u)
put_thread p a t u o first w g open_is l =
    let objects = a.objects ++ Some o ∷ [] in
    let pages = with_large a.pages first (words_of_object o) in
    let stay : AllStay a.objects objects = push_stays a.objects o in
    let same_page : (v : ℕ) (ty : PageType) (page : ℕ) → open_page (thread_at a v) ty ≡ Some page → IsOpenPage ty page (entry_at pages page) =
    λ v ty page e. (let was = open_page_used p a v ty page w e in rw (open_page_same a.pages o first g ty page was) was) in
    elim (cases_eq u t) [
      | inl same ↦ rw (is_changed same) (thread_from objects pages (without_run (thread_at a t))
          (run_cells objects (thread_at a t) (cells_stay a.objects objects (thread_at a t) stay (cells_of (own same))))
          (λ ty page e. same_page t ty page (no_run (thread_at a t) ty page e))
          (λ page e. cc))
      | inr other ↦ rw (other_thread a t u (without_run (thread_at a t)) other) (thread_from objects pages (thread_at a u)
          (cells_stay a.objects objects (thread_at a u) stay (cells_of (w.threads u l)))
          (λ ty page e. same_page u ty page e)
          (λ page e. open_runs_stay a.pages o first g page (open_run_used p a u page w e)
          (λ same. other (w.own_runs u t first (subst (λ (x : ℕ). (thread_at a u).open_run ≡ Some x) same e) open_is))))
    ]
  where
    own : u ≡ t → IsThread a.objects a.pages (thread_at a t)
    own same = subst (λ (v : ℕ). IsThread a.objects a.pages (thread_at a v)) same (w.threads u l)

    is_changed : u ≡ t → thread_at (heap_put a t o first) u ≡ without_run (thread_at a t)
    is_changed same = ap (λ (v : ℕ). thread_at (with_thread a t (without_run (thread_at a t))) v) same
        ∙ changed_thread a t (without_run (thread_at a t)) (let lengths = w.threads_length in omega (arith, same))

    no_run : (th : Thread) (ty : PageType) (page : ℕ) → open_page (without_run th) ty ≡ Some page → open_page th ty ≡ Some page
    no_run th types.Cons page e = e
    no_run th types.Boxed page e = e
    no_run th types.Unboxed page e = e

    run_cells : (objects : List (Option Object)) (th : Thread) → HasCells objects th → HasCells objects (without_run th)
    run_cells objects th h = record {
      stack_length = h.stack_length;
      exact_length = h.exact_length;
      raws_length = h.raws_length;
      stack = h.stack;
      exact = h.exact;
      raws = h.raws;
      pins = h.pins;
      pins_most = h.pins_most;
      owed = h.owed;
      inhibits = h.inhibits;
    }

-- so the heap is well-formed
pub put-kept : (p : Program) (a : NamedHeap) (t : ℕ) (o : Object) (first : ℕ) → IsWellFormed p a → GoesInto a.pages o first → (thread_at a t).open_run ≡ Some first →
    HoldsLiving a.objects o.contents → IsShaped o.contents → IsWellFormed p (heap_put a t o first)
put-kept p a t o first w g open_is living shape =
    let objects = a.objects ++ Some o ∷ [] in
    let pages = with_large a.pages first (words_of_object o) in
    let stay : AllStay a.objects objects = push_stays a.objects o in
    let own = own_kept p a t (without_run (thread_at a t)) w (same_but_run (thread_at a t)) in
    let sound = added-sound a o pages w.sound (others_placed a.pages o first g) (entries_stay a.pages o first g w.sound.entries) (runs_stay a.pages o first g w.sound.runs)
    g.young shape living (placed_there a.pages o first g) (λ x q e. others_apart a.pages o first g w.sound.entries q (w.sound.objects x q e).placed) in
    record {
      sound = same_sound (record a { objects = objects; pages = pages }) (set a.threads t (without_run (thread_at a t))) a.shared a.counted a.triggered sound;
      pages_length = (run a.pages o first g).lengths ∙ w.pages_length;
      threads_length = length-set a.threads t (without_run (thread_at a t)) ∙ w.threads_length;
      shared_length = w.shared_length;
      cum_length = w.cum_length;
      num_length = w.num_length;
      threads = λ u l. put_thread p a t u o first w g open_is l;
      shared = AreLiving-stays a.objects objects stay a.shared w.shared;
      objects_collected = by_name a.objects o (λ q. q.generation ≤ 5) w.objects_collected (rw g.young (omega arith));
      pages_collected = λ i. elim (run_cases a.pages o first g i) [
        | inl same ↦ rw same (w.pages_collected i)
        | inr taken ↦ rw taken.3 (omega arith)
      ];
      triggered = w.triggered;
      own_pages = own.pages;
      own_runs = own.runs;
    }
  where
    same_but_run : (th : Thread) → HasNoMore th (without_run th)
    same_but_run th = record { pages = pages th; run = λ page e. cc }
      where
        pages : (th : Thread) (ty : PageType) (page : ℕ) → open_page (without_run th) ty ≡ Some page → open_page th ty ≡ Some page
        pages th types.Cons page e = e
        pages th types.Boxed page e = e
        pages th types.Unboxed page e = e
