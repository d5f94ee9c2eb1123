-- A well-formed heap stays well-formed when a small object is put on its thread's open page.
use Rattle.std.proofs.Common.{◌≡◌, ℕ, ◌+◌, ◌-◌, ◌*◌, ◌/◌, ◌%◌, ◌<◌, ◌≤◌, List, [], ◌∷◌, ◌++◌, length, Option, Some, None, true, ◌≢◌, ◌⊎◌, inl, inr, refl, sym, ◌∙◌, subst, ap, arith, set}
use Rattle.std.proofs.lemmas.Bool.{cases_lt, cases_Bool, cases_order, false≢true}
use Rattle.std.proofs.lemmas.List.{length-set, get_or-set_same, get_or_past}
use Rattle.std.proofs.lemmas.List.Elements.{All-weaker}
use Rattle.std.specs.List.{All}
use Rattle.heap_terms.specs.declared.kinds.PageType.{PageType}
use Rattle.heap_terms.specs.declared.pages.Entry.{Entry}
use Rattle.heap_terms.specs.declared.pages.Entry.TheVariants.{Free, Used}
use Rattle.heap_terms.specs.declared.programs.Program.{Program}
use Rattle.heap_terms.specs.Heap.{NamedHeap, Thread, object_at, entry_at, thread_at, fill_of, open_page}
use Rattle.heap_terms.specs.Layout.{page_words, page_type_of}
use Rattle.heap_terms.specs.Objects.{Object, kind_of, payload_of, words_of_object}
use Rattle.heap_terms.specs.Regions.{is_small, pages_needed}
use Rattle.heap_terms.specs.Living.{HoldsLiving, IsShaped}
use Rattle.heap_terms.specs.OnPages.{IsPlaced, IsOnPage, IsPageOfRun, AreApart, IsFill, IsEntry, IsInRun}
use Rattle.heap_terms.specs.Sound.{IsSound, IsObject, IsFinalizer}
use Rattle.heap_terms.specs.WellFormed.{IsWellFormed, IsThread, IsOpenPage, IsOpenRun}
use Rattle.heap_laws.proofs.Lists.Places.{set_cases, push_cases, IfSome-at}
use Rattle.heap_laws.proofs.WellFormed.LivingValues.{AllStay, AreLiving-stays, HoldsLiving-stays, push_stays}
use Rattle.heap_laws.proofs.WellFormed.PagesStay.{EntryStays-same, PagesStay, IsPlaced-stays, StaysInRun-from, IsInRun-stays, size_even, size_least, needs_two, needs_enough}
use Rattle.heap_laws.proofs.WellFormed.RegionOpened.{pages_thread}
use Rattle.heap_laws.proofs.WellFormed.Threads.{HasCells, cells_of, thread_from}

-- the entry of the page after its fill rose
pub filled_entry : (pages : List Entry) (page : ℕ) (ty : PageType) (fill size i : ℕ) → entry_at pages page ≡ Used ty 0 fill page 1 →
    (entry_at (set pages page (Used ty 0 (fill + size) page 1)) i ≡ entry_at pages i)
    ⊎ ((i ≡ page) × (entry_at pages i ≡ Used ty 0 fill page 1) × (entry_at (set pages page (Used ty 0 (fill + size) page 1)) i ≡ Used ty 0 (fill + size) page 1))
filled_entry pages page ty fill size i e = elim (set_cases pages page i (Used ty 0 (fill + size) page 1) Free) [
  | inl same ↦ inl same
  | inr here ↦ inr (here.0, subst (λ (x : ℕ). entry_at pages x ≡ Used ty 0 fill page 1) (sym here.0) e, here.2)
]

pub filled_stays : (pages : List Entry) (page : ℕ) (ty : PageType) (fill size : ℕ) → entry_at pages page ≡ Used ty 0 fill page 1 →
    PagesStay pages (set pages page (Used ty 0 (fill + size) page 1))
filled_stays pages page ty fill size e = record {
  lengths = length-set pages page (Used ty 0 (fill + size) page 1);
  each = λ i. elim (filled_entry pages page ty fill size i e) [
    | inl same ↦ rw same (EntryStays-same (entry_at pages i))
    | inr here ↦ rw (here.1, here.2) (refl, refl, refl, refl, omega arith, λ h. absurd (h refl))
  ];
}

-- a page that is used is there
pub used_inside : (pages : List Entry) (page : ℕ) (ty : PageType) (g fill first n : ℕ) → entry_at pages page ≡ Used ty g fill first n → page < length pages
used_inside pages page ty g fill first n e = elim (cases_lt page (length pages)) [
  | inl l ↦ l
  | inr l ↦ (let past = get_or_past pages page Free l in let never : Free ≡ Used ty g fill first n = sym past ∙ e in cc)
]

-- what stands already is apart from an object that begins at the fill of an open page
pub apart_from_new : (pages : List Entry) (q o : Object) (page : ℕ) (ty : PageType) (fill : ℕ) → IsPlaced pages q →
    ((i : ℕ) → IsFill (fill_of (entry_at pages i))) → entry_at pages page ≡ Used ty 0 fill page 1 → o.place ≡ page_words * page + fill →
    fill + words_of_object o ≤ page_words → AreApart q o
apart_from_new pages q o page ty fill h fills e place room = elim (cases_Bool (is_small (words_of_object q))) [
  | inl small ↦ elim (cases_order (q.place / page_words) page) [
    | inl same ↦ (
        let on : IsOnPage q (Used ty 0 fill page 1) = on_page q (q.place / page_words) page (Used ty 0 fill page 1) same e (h.small small) in
        let below = on.4 in
        inl (omega arith))
    | inr other ↦ (
        let most : q.place % page_words + words_of_object q ≤ page_words = on_most q (entry_at pages (q.place / page_words)) (h.small small) (fills (q.place / page_words)).most in
        elim other [ inl l ↦ inl (omega arith) | inr l ↦ inr (omega arith) ])
  ]
  | inr large ↦ elim (cases_lt page (q.place / page_words)) [
    | inl l ↦ inr (omega arith)
    | inr l ↦ elim (cases_lt page (q.place / page_words + pages_needed (words_of_object q))) [
      | inr past ↦ (
          let enough = needs_enough (words_of_object q) large in
          let start = h.large_start large in
          inl (omega arith))
      | inl within ↦ (
          let i : ℕ = page - q.place / page_words in
          let at : q.place / page_words + i ≡ page = omega arith in
          let of_run : IsPageOfRun q i (Used ty 0 fill page 1) = on_run q i (q.place / page_words + i) page (Used ty 0 fill page 1) at e (h.large large i (omega arith)) in
          let one : 1 ≡ pages_needed (words_of_object q) = of_run.3 in
          let two = needs_two (words_of_object q) large in
          absurd (omega arith))
    ]
  ]
]
  where
    on_page : (q : Object) (x y : ℕ) (new : Entry) → x ≡ y → entry_at pages y ≡ new → IsOnPage q (entry_at pages x) → IsOnPage q new
    on_page q x y new same e h = let f : entry_at pages x ≡ new = ap (λ (z : ℕ). entry_at pages z) same ∙ e in subst (λ (z : Entry). IsOnPage q z) f h

    on_run : (q : Object) (i x y : ℕ) (new : Entry) → x ≡ y → entry_at pages y ≡ new → IsPageOfRun q i (entry_at pages x) → IsPageOfRun q i new
    on_run q i x y new same e h = let f : entry_at pages x ≡ new = ap (λ (z : ℕ). entry_at pages z) same ∙ e in subst (λ (z : Entry). IsPageOfRun q i z) f h

    on_most : (q : Object) (x : Entry) → IsOnPage q x → fill_of x ≤ page_words → q.place % page_words + words_of_object q ≤ page_words
    on_most q Free h most = absurd h
    on_most q (Used ty g fill first n) h most = omega (arith, h.4)

-- a small object of generation 0 begins at the fill of an open page of its type, and has room there
pub record GoesOn (pages : List Entry) (o : Object) (page fill : ℕ) : Type 0 where
  pub small : is_small (words_of_object o) ≡ true
  pub young : o.generation ≡ 0
  pub entry : entry_at pages page ≡ Used (page_type_of (kind_of o.contents)) 0 fill page 1
  pub place : o.place ≡ page_words * page + fill
  pub room : fill + words_of_object o ≤ page_words

-- the pages after it was put there
abbrev pub pages_with : List Entry → Object → ℕ → ℕ → List Entry
pages_with pages o page fill = set pages page (Used (page_type_of (kind_of o.contents)) 0 (fill + words_of_object o) page 1)

pub placed_new : (pages : List Entry) (o : Object) (page fill : ℕ) → GoesOn pages o page fill → fill % 2 ≡ 0 → IsPlaced (pages_with pages o page fill) o
placed_new pages o page fill g even =
    let ty = page_type_of (kind_of o.contents) in
    let least : 2 ≤ words_of_object o = size_least (kind_of o.contents) (payload_of o.contents) in
    let place = g.place in
    let room = g.room in
    let lies : page < length pages = used_inside pages page ty 0 fill page 1 g.entry in
    let here : o.place / page_words ≡ page = omega arith in
    let offset : o.place % page_words ≡ fill = omega arith in
    let new : entry_at (pages_with pages o page fill) page ≡ Used ty 0 (fill + words_of_object o) page 1 =
    get_or-set_same pages page (Used ty 0 (fill + words_of_object o) page 1) Free lies in
    record {
      even = omega arith;
      inside = (let lengths = length-set pages page (Used ty 0 (fill + words_of_object o) page 1) in omega arith);
      small = λ e. on o (o.place / page_words) page (Used ty 0 (fill + words_of_object o) page 1) here new
          (refl, sym g.young, sym here, refl, omega arith);
      large_start = λ e. absurd (false≢true (sym e ∙ g.small));
      large = λ e i l. absurd (false≢true (sym e ∙ g.small));
    }
  where
    on : (o : Object) (x y : ℕ) (new : Entry) → x ≡ y → entry_at (pages_with pages o page fill) y ≡ new → IsOnPage o new →
        IsOnPage o (entry_at (pages_with pages o page fill) x)
    on o x y new same e h =
        let f : entry_at (pages_with pages o page fill) x ≡ new = ap (λ (z : ℕ). entry_at (pages_with pages o page fill) z) same ∙ e in
        subst (λ (z : Entry). IsOnPage o z) (sym f) h

-- the fill of a page, free or not
pub entry_fill : (e : Entry) → IsEntry e → IsFill (fill_of e)
entry_fill Free h = record { even = refl; most = omega arith }
entry_fill (Used ty g fill first n) h = h.1

-- an object is sound after others came and pages were filled
object_stays : (old new : List (Option Object)) (pages pages' : List Entry) (o : Object) → AllStay old new → IsPlaced pages' o → IsObject old pages o → IsObject new pages' o
object_stays old new pages pages' o stay placed h = record {
  generation = h.generation;
  shape = h.shape;
  contents = HoldsLiving-stays old new stay o.contents h.contents;
  placed = placed;
}

-- and so are finalizers
pub finalizers_stay : (old new : List (Option Object)) (fs : List (ℕ × ℕ)) → AllStay old new → All (IsFinalizer old) fs → All (IsFinalizer new) fs
finalizers_stay old new fs stay h = All-weaker (IsFinalizer old) (IsFinalizer new) (λ entry f. record { there = stay entry.0 f.there; id = f.id }) fs h

-- the threads' cells stay
pub cells_stay : (old new : List (Option Object)) (th : Thread) → AllStay old new → HasCells old th → HasCells new th
cells_stay old new th stay h = record {
  stack_length = h.stack_length;
  exact_length = h.exact_length;
  raws_length = h.raws_length;
  stack = AreLiving-stays old new stay th.stack h.stack;
  exact = AreLiving-stays old new stay th.exact h.exact;
  raws = h.raws;
  pins = h.pins;
  pins_most = h.pins_most;
  owed = h.owed;
  inhibits = h.inhibits;
}

pub thread_stays : (old new : List (Option Object)) (pages : List Entry) (th : Thread) → AllStay old new → IsThread old pages th → IsThread new pages th
thread_stays old new pages th stay h = thread_from new pages th (cells_stay old new th stay (cells_of h))
    (λ ty x e. IfSome-at (λ (x : ℕ). IsOpenPage ty x (entry_at pages x)) (open_page th ty) x e (h.open_pages ty))
    (λ x e. IfSome-at (IsOpenRun pages) th.open_run x e h.open_run)

-- what is new among the objects of a longer list, and what was there before
pub by_name : (objects : List (Option Object)) (o : Object) (P : Object → Type 0) → ((name : ℕ) (q : Object) → object_at objects name ≡ Some q → P q) → P o →
    (name : ℕ) (q : Object) → object_at (objects ++ Some o ∷ []) name ≡ Some q → P q
by_name objects o P old new name q e = elim (push_cases objects name (Some o) None) [
  | inl same ↦ old name q (sym same.1 ∙ e)
  | inr here ↦ (let f : Some o ≡ Some q = sym here.1 ∙ e in let is : o ≡ q = cc in subst P is new)
]

-- two objects of a longer list are apart if the old ones are, and each of them from the new one
pub pushed_apart : (objects : List (Option Object)) (o : Object) →
    ((x y : ℕ) (q r : Object) → x ≢ y → object_at objects x ≡ Some q → object_at objects y ≡ Some r → AreApart q r) →
    ((x : ℕ) (q : Object) → object_at objects x ≡ Some q → AreApart q o) →
    (x y : ℕ) (q r : Object) → x ≢ y → object_at (objects ++ Some o ∷ []) x ≡ Some q → object_at (objects ++ Some o ∷ []) y ≡ Some r → AreApart q r
pushed_apart objects o old new x y q r differ e f = elim (push_cases objects x (Some o) None) [
  | inl same ↦ elim (push_cases objects y (Some o) None) [
    | inl same' ↦ old x y q r differ (sym same.1 ∙ e) (sym same'.1 ∙ f)
    | inr here ↦ (
        let g : Some o ≡ Some r = sym here.1 ∙ f in
        let is : o ≡ r = cc in
        subst (λ (z : Object). AreApart q z) is (new x q (sym same.1 ∙ e)))
  ]
  | inr here ↦ elim (push_cases objects y (Some o) None) [
    | inl same' ↦ (
        let g : Some o ≡ Some q = sym here.1 ∙ e in
        let is : o ≡ q = cc in
        subst (λ (z : Object). AreApart z r) is (swapped r o (new y r (sym same'.1 ∙ f))))
    | inr here' ↦ absurd (differ (here.0 ∙ sym here'.0))
  ]
]
  where
    swapped : (q r : Object) → AreApart q r → AreApart r q
    swapped q r (inl h) = inr h
    swapped q r (inr h) = inl h

-- a sound object of generation 0 is added, on pages on which the others lie as before
pub added-sound : (a : NamedHeap) (o : Object) (pages : List Entry) → IsSound a → ((q : Object) → IsPlaced a.pages q → IsPlaced pages q) →
    ((page : ℕ) → IsEntry (entry_at pages page)) → ((page : ℕ) → IsInRun pages page (entry_at pages page)) →
    o.generation ≡ 0 → IsShaped o.contents → HoldsLiving a.objects o.contents → IsPlaced pages o →
    ((x : ℕ) (q : Object) → object_at a.objects x ≡ Some q → AreApart q o) →
    IsSound (record a { objects = a.objects ++ Some o ∷ []; pages = pages })
added-sound a o pages w others entries runs young shape living placed apart =
    let objects = a.objects ++ Some o ∷ [] in
    let stay : AllStay a.objects objects = push_stays a.objects o in
    record {
      objects = by_name a.objects o (λ q. IsObject objects pages q)
          (λ name q e. object_stays a.objects objects a.pages pages q stay (others q (w.objects name q e).placed) (w.objects name q e))
          (record { generation = rw young (omega arith); shape = shape; contents = HoldsLiving-stays a.objects objects stay o.contents living; placed = placed });
      apart = pushed_apart a.objects o w.apart apart;
      entries = entries;
      runs = runs;
      finalizers = finalizers_stay a.objects objects a.finalizers stay w.finalizers;
      queue = w.queue;
    }

-- an object is put on its page
pub pushed-kept : (p : Program) (a : NamedHeap) (o : Object) (page fill : ℕ) → IsWellFormed p a → GoesOn a.pages o page fill →
    HoldsLiving a.objects o.contents → IsShaped o.contents →
    IsWellFormed p (record a { objects = a.objects ++ Some o ∷ []; pages = pages_with a.pages o page fill })
pushed-kept p a o page fill w g living shape =
    let ty = page_type_of (kind_of o.contents) in
    let objects = a.objects ++ Some o ∷ [] in
    let pages = pages_with a.pages o page fill in
    let stay : AllStay a.objects objects = push_stays a.objects o in
    let pages_stay : PagesStay a.pages pages = filled_stays a.pages page ty fill (words_of_object o) g.entry in
    let fills : (i : ℕ) → IsFill (fill_of (entry_at a.pages i)) = λ i. entry_fill (entry_at a.pages i) (w.sound.entries i) in
    let even : fill % 2 ≡ 0 = even_of (entry_at a.pages page) g.entry (fills page) in
    record {
      sound = added-sound a o pages w.sound (λ q placed. IsPlaced-stays a.pages pages q pages_stay placed)
          (λ i. elim (filled_entry a.pages page ty fill (words_of_object o) i g.entry) [
            | inl same ↦ rw same (w.sound.entries i)
            | inr here ↦ rw here.2 (
                let size = size_even (kind_of o.contents) (payload_of o.contents) in
                let room = g.room in
                (omega arith, record { even = omega arith; most = omega arith }))
          ])
          (λ i. IsInRun-stays a.pages pages i pages_stay.lengths (λ j. StaysInRun-from (entry_at a.pages j) (entry_at pages j) (pages_stay.each j))
          (entry_at a.pages i) (entry_at pages i) (StaysInRun-from (entry_at a.pages i) (entry_at pages i) (pages_stay.each i)) (w.sound.runs i)
          (λ free. elim (filled_entry a.pages page ty fill (words_of_object o) i g.entry) [
            | inl same ↦ rw (same, free) tt
            | inr here ↦ (let never : Free ≡ Used ty 0 fill page 1 = sym free ∙ here.1 in cc)
          ]))
          g.young shape living (placed_new a.pages o page fill g even)
          (λ x q e. apart_from_new a.pages q o page ty fill (w.sound.objects x q e).placed fills g.entry g.place g.room);
      pages_length = pages_stay.lengths ∙ w.pages_length;
      threads_length = w.threads_length;
      shared_length = w.shared_length;
      cum_length = w.cum_length;
      num_length = w.num_length;
      threads = λ t l. thread_stays a.objects objects pages (thread_at a t) stay (pages_thread a.objects a.pages pages (thread_at a t) pages_stay (w.threads t l));
      shared = AreLiving-stays a.objects objects stay a.shared w.shared;
      objects_collected = by_name a.objects o (λ q. q.generation ≤ 5) w.objects_collected (rw g.young (omega arith));
      pages_collected = λ i. elim (filled_entry a.pages page ty fill (words_of_object o) i g.entry) [
        | inl same ↦ rw same (w.pages_collected i)
        | inr here ↦ rw here.2 (omega arith)
      ];
      triggered = w.triggered;
      own_pages = w.own_pages;
      own_runs = w.own_runs;
    }
  where
    even_of : (e : Entry) → e ≡ Used (page_type_of (kind_of o.contents)) 0 fill page 1 → IsFill (fill_of e) → fill % 2 ≡ 0
    even_of e is h = (rw is at h).even
