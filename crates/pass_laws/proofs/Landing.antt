-- One step of a placement: where an object goes, what that changes in the pages, and that it lies there as it must.
use Rattle.std.proofs.Common.{◌≡◌, ℕ, ◌+◌, ◌-◌, ◌*◌, ◌/◌, ◌%◌, ◌<◌, ◌≤◌, List, length, set, Some, true, false, ◌⊎◌, inl, inr, refl, sym, ◌∙◌, subst, arith}
use Rattle.std.proofs.lemmas.Bool.{cases_lt, cases_eq, false≢true}
use Rattle.std.proofs.lemmas.List.{length-set, get_or-set_same, get_or-set_other, get_or_past}
use Rattle.std.proofs.lemmas.Option.{same_Some}
use Rattle.heap_terms.specs.declared.kinds.PageType.{PageType}
use Rattle.heap_terms.specs.declared.kinds.PageType.TheVariants as types
use Rattle.heap_terms.specs.declared.pages.Entry.{Entry}
use Rattle.heap_terms.specs.declared.pages.Entry.TheVariants.{Free, Used}
use Rattle.heap_terms.specs.Heap.{entry_at, fill_of}
use Rattle.heap_terms.specs.Layout.{page_type_of}
use Rattle.heap_terms.specs.Objects.{Object, kind_of, words_of_object}
use Rattle.heap_terms.specs.Placement.{Placement, scratch, page_in_use, using_page, taken_run}
use Rattle.heap_terms.specs.Regions.{is_small, pages_needed}
use Rattle.heap_terms.specs.OnPages.{IsFill, IsPlaced, SaysOfRun, IsInRun}
use Rattle.pass_laws.specs.Spread.{moved_object}
use Rattle.pass_laws.proofs.FreeRuns.{AreFree, IsTakenRun, taken_entries}
use Rattle.pass_laws.proofs.Sizes.{IsBelowFill, words_least, words_even, large_least, large_needs, needs_least}

-- a page that the pass took: it has the scratch generation
pub record IsTaken (e : Entry) : Type 0 where
  pub ty : PageType
  pub fill : ℕ
  pub first : ℕ
  pub count : ℕ
  pub entry : e ≡ Used ty scratch fill first count
  pub is_fill : IsFill fill

-- a page that the pass took by itself, and what was put on it later
pub record IsFilled (e new : Entry) : Type 0 where
  pub ty : PageType
  pub fill : ℕ
  pub more : ℕ
  pub page : ℕ
  pub entry : e ≡ Used ty scratch fill page 1
  pub entry_new : new ≡ Used ty scratch more page 1
  pub grows : fill ≤ more
  pub is_fill : IsFill more

-- what a step does to a page: nothing, it is taken, or it is filled
abbrev pub EntryStep : Entry → Entry → Type 0
EntryStep e new = (new ≡ e) ⊎ ((e ≡ Free) × IsTaken new) ⊎ IsFilled e new

-- the pages in use are pages that the pass took, each by itself
abbrev pub AreInUse : Placement → Type 0
AreInUse s = (ty : PageType) (page : ℕ) → page_in_use s ty ≡ Some page →
    (fill : ℕ) × (entry_at s.pages page ≡ Used ty scratch fill page 1) × IsFill fill

-- what there is to know of a step that put an object at an index
pub record Lands (s new : Placement) (o : Object) (index : ℕ) : Type 0 where
  pub lengths : length new.pages ≡ length s.pages
  pub steps : (page : ℕ) → EntryStep (entry_at s.pages page) (entry_at new.pages page)
  pub placed : IsPlaced new.pages (moved_object o index)
  pub above : (i : ℕ) → index ≤ i → i < index + words_of_object o → IsBelowFill s.pages i → ⊥
  pub in_use : AreInUse new
  pub runs : (page : ℕ) → entry_at s.pages page ≡ Free → IsInRun new.pages page (entry_at new.pages page)

pub used_inside : (pages : List Entry) (page : ℕ) (ty : PageType) (g fill first k : ℕ) → entry_at pages page ≡ Used ty g fill first k → page < length pages
used_inside pages page ty g fill first k e = elim (cases_lt page (length pages)) [
  | inl l ↦ l
  | inr l ↦ (let none : Free ≡ Used ty g fill first k = rw (get_or_past pages page Free l) at e in cc)
]

-- which page is in use after one was taken into use
in_use_cases : (s : Placement) (ty : PageType) (page : ℕ) (other : PageType) (q : ℕ) → page_in_use (using_page s ty page) other ≡ Some q →
    ((other ≡ ty) × (q ≡ page)) ⊎ (page_in_use s other ≡ Some q)
in_use_cases s types.Cons page types.Cons q e = inl (refl, sym (same_Some page q e))
in_use_cases s types.Cons page types.Boxed q e = inr e
in_use_cases s types.Cons page types.Unboxed q e = inr e
in_use_cases s types.Boxed page types.Cons q e = inr e
in_use_cases s types.Boxed page types.Boxed q e = inl (refl, sym (same_Some page q e))
in_use_cases s types.Boxed page types.Unboxed q e = inr e
in_use_cases s types.Unboxed page types.Cons q e = inr e
in_use_cases s types.Unboxed page types.Boxed q e = inr e
in_use_cases s types.Unboxed page types.Unboxed q e = inl (refl, sym (same_Some page q e))

using_pages : (s : Placement) (ty : PageType) (page : ℕ) → (using_page s ty page).pages ≡ s.pages
using_pages s types.Cons page = refl
using_pages s types.Boxed page = refl
using_pages s types.Unboxed page = refl

-- a page with room for a small object: it is in use, or free
pub record HasRoom (s : Placement) (ty : PageType) (size page fill : ℕ) : Type 0 where
  pub entry : (entry_at s.pages page ≡ Used ty scratch fill page 1) ⊎ ((entry_at s.pages page ≡ Free) × (fill ≡ 0))
  pub inside : page < length s.pages
  pub room : fill + size ≤ 512
  pub even : fill % 2 ≡ 0

-- a small object goes there
pub small_lands : (s : Placement) (o : Object) (page fill : ℕ) → AreInUse s → is_small (words_of_object o) ≡ true →
    HasRoom s (page_type_of (kind_of o.contents)) (words_of_object o) page fill →
    Lands s (using_page (record s { pages = set s.pages page (Used (page_type_of (kind_of o.contents)) scratch (fill + words_of_object o) page 1) }) (page_type_of (kind_of o.contents)) page)
    o (512 * page + fill)
small_lands s o page fill used small h =
    let ty = page_type_of (kind_of o.contents) in
    let size = words_of_object o in
    let least = words_least o in
    let even = words_even o in
    let room = h.room in
    let fill_even = h.even in
    let inside = h.inside in
    let e = Used ty scratch (fill + size) page 1 in
    let pages = set s.pages page e in
    let at_page : (512 * page + fill) / 512 ≡ page = omega arith in
    let at_fill : (512 * page + fill) % 512 ≡ fill = omega arith in
    let here : entry_at pages page ≡ e = get_or-set_same s.pages page e Free inside in
    let is_fill : IsFill (fill + size) = record { even = omega arith; most = room } in
    let same = using_pages (record s { pages = pages }) ty page in
    record {
      lengths = rw same (length-set s.pages page e);
      steps = λ q. rw same (elim (cases_eq q page) [
        | inl is ↦ rw (is, here) (elim h.entry [
          | inl was ↦ inr (inr (record { ty = ty; fill = fill; more = fill + size; page = page; entry = was; entry_new = refl; grows = omega arith; is_fill = is_fill }))
          | inr free ↦ inr (inl (free.0, record { ty = ty; fill = fill + size; first = page; count = 1; entry = refl; is_fill = is_fill }))
        ])
        | inr apart ↦ inl (get_or-set_other s.pages page q e Free apart)
      ]);
      placed = rw same (record {
        even = omega arith;
        inside = rw (length-set s.pages page e) (omega arith);
        small = λ _. rw (at_page, here) (refl, refl, sym at_page, refl, (let fits : (512 * page + fill) % 512 + size ≤ fill + size = omega arith in fits));
        large_start = λ large. absurd (false≢true (sym large ∙ small));
        large = λ large. absurd (false≢true (sym large ∙ small));
      });
      above = λ i from below under. (let at : i / 512 ≡ page = omega arith in
          let under' : i % 512 < fill_of (entry_at s.pages page) = subst (λ (q : ℕ). i % 512 < fill_of (entry_at s.pages q)) at under in
          elim h.entry [
            | inl was ↦ (let u : i % 512 < fill = rw was at under' in absurd (omega arith))
            | inr free ↦ (let u : i % 512 < 0 = rw free.0 at under' in absurd (omega arith))
          ]);
      in_use = λ other q f. elim (in_use_cases (record s { pages = pages }) ty page other q f) [
        | inl now ↦ rw (same, now.0, now.1) (fill + size, here, is_fill)
        | inr before ↦ (let was = used other q before in elim (cases_eq q page) [
          | inl is ↦ rw (same, is) (
            fill + size,
            here ∙ (elim h.entry [
              | inl there ↦ (let both : Used other scratch was.0 q 1 ≡ Used ty scratch fill page 1 = sym was.1 ∙ (subst (λ (x : ℕ). entry_at s.pages x ≡ Used ty scratch fill page 1) (sym is) there) in
                  let types_same : other ≡ ty = cc in rw types_same refl)
              | inr free ↦ (let both : Used other scratch was.0 q 1 ≡ Free = sym was.1 ∙ (subst (λ (x : ℕ). entry_at s.pages x ≡ Free) (sym is) free.0) in cc)
            ]),
            is_fill,
          )
          | inr apart ↦ rw same (was.0, get_or-set_other s.pages page q e Free apart ∙ was.1, was.2)
        ])
      ];
      runs = λ q free. elim (cases_eq q page) [
        | inl is ↦ rw (same, is, here) (
          omega arith,
          omega arith,
          rw (length-set s.pages page e) (omega arith),
          λ i l.
              (let at : page + i ≡ page = omega arith in rw (at, here) (refl, refl, refl, refl)),
        )
        | inr apart ↦ rw (same, get_or-set_other s.pages page q e Free apart, free) tt
      ];
    }

-- all pages of a run that was taken say the same
says_at : {pages new : List Entry} {ty : PageType} {first k size : ℕ} → IsTakenRun pages new ty first k size → 1 ≤ k → (i : ℕ) → i < k →
    SaysOfRun ty scratch first k (entry_at new (first + i))
says_at {new = new} {ty = ty} {first = first} {k = k} run least i l = elim (cases_lt (i + 1) k) [
  | inl more ↦ rw (run.full i more) (refl, refl, refl, refl)
  | inr end ↦ (let is : i ≡ k - 1 = omega arith in rw (is, run.last) (refl, refl, refl, refl))
]

in_run : (pages : List Entry) (page first k : ℕ) (ty : PageType) (e : Entry) → SaysOfRun ty scratch first k e → first ≤ page → page < first + k →
    first + k ≤ length pages → ((i : ℕ) → i < k → SaysOfRun ty scratch first k (entry_at pages (first + i))) → IsInRun pages page e
in_run pages page first k ty Free says from below inside all = absurd says
in_run pages page first k ty (Used other g fill start n) says from below inside all =
    rw (says.0, says.1, says.2, says.3) (from, below, inside, all)

-- a large object goes into a run
pub large_lands : (s : Placement) (o : Object) (first : ℕ) → AreInUse s → is_small (words_of_object o) ≡ false →
    AreFree s.pages first (pages_needed (words_of_object o)) →
    Lands s (record s { pages = taken_run s.pages (page_type_of (kind_of o.contents)) first (pages_needed (words_of_object o)) (words_of_object o) }) o (512 * first)
large_lands s o first used large h =
    let ty = page_type_of (kind_of o.contents) in
    let size = words_of_object o in
    let k = pages_needed size in
    let needs = large_needs size large in
    let least = large_least size large in
    let even = words_even o in
    let inside = h.inside in
    let pages = taken_run s.pages ty first k size in
    let run = taken_entries s.pages ty first k size (needs_least size) inside in
    let enough : (1 ≤ k) × (size ≤ 512 * k) × (512 * (k - 1) < size) = rw needs (omega arith, omega arith, omega arith) in
    let at_first : (512 * first) / 512 ≡ first = omega arith in
    let full_fill : IsFill 512 = record { even = refl; most = omega arith } in
    let last_fill : IsFill (size - 512 * (k - 1)) = record { even = omega arith; most = omega arith } in
    record {
      lengths = run.lengths;
      steps = λ q. elim (cases_lt q first) [
        | inl l ↦ inl (run.below q l)
        | inr l ↦ elim (cases_lt q (first + k)) [
          | inr m ↦ inl (run.above q m)
          | inl m ↦ (let at : first + (q - first) ≡ q = omega arith in
              let free : entry_at s.pages q ≡ Free = subst (λ (x : ℕ). entry_at s.pages x ≡ Free) at (h.free (q - first) (omega arith)) in
              elim (cases_lt ((q - first) + 1) k) [
                | inl more ↦ inr (inl (
                  free,
                  record {
                    ty = ty;
                    fill = 512;
                    first = first;
                    count = k;
                    is_fill = full_fill;
                    entry = subst (λ (x : ℕ). entry_at pages x ≡ Used ty scratch 512 first k) at (run.full (q - first) more);
                  },
                ))
                | inr end ↦ (let at' : first + (k - 1) ≡ q = omega arith in
                    inr (inl (
                      free,
                      record {
                        ty = ty;
                        fill = size - 512 * (k - 1);
                        first = first;
                        count = k;
                        is_fill = last_fill;
                        entry = subst (λ (x : ℕ). entry_at pages x ≡ Used ty scratch (size - 512 * (k - 1)) first k) at' run.last;
                      },
                    )))
              ])
        ]
      ];
      placed = record {
        even = omega arith;
        inside = rw run.lengths (omega arith);
        small = λ small. absurd (false≢true (sym large ∙ small));
        large_start = λ _. omega arith;
        large = λ _ i l. rw at_first (elim (cases_lt (i + 1) k) [
          | inl more ↦ rw (run.full i more) (refl, refl, sym at_first, refl, λ _. refl, λ e. absurd (omega (arith, more, e)))
          | inr end ↦ (let is : i ≡ k - 1 = omega arith in
              rw (is, run.last) (refl, refl, sym at_first, refl, λ m. absurd (omega (arith, m)), λ _. omega arith))
        ]);
      };
      above = λ i from below under. (let j = i / 512 - first in
          let in_run : j < k = omega arith in
          let at : first + j ≡ i / 512 = omega arith in
          let free : entry_at s.pages (i / 512) ≡ Free = subst (λ (x : ℕ). entry_at s.pages x ≡ Free) at (h.free j in_run) in
          let u : i % 512 < 0 = rw free at under in absurd (omega arith));
      in_use = λ other q f. (let was = used other q f in
          let out : (q < first) ⊎ (first + k ≤ q) = elim (cases_lt q first) [
            | inl l ↦ inl l
            | inr l ↦ elim (cases_lt q (first + k)) [
              | inr m ↦ inr m
              | inl m ↦ (let at : first + (q - first) ≡ q = omega arith in
                  let free : entry_at s.pages q ≡ Free = subst (λ (x : ℕ). entry_at s.pages x ≡ Free) at (h.free (q - first) (omega arith)) in
                  let both : Used other scratch was.0 q 1 ≡ Free = sym was.1 ∙ free in cc)
            ]
          ] in
          elim out [
            | inl l ↦ (was.0, run.below q l ∙ was.1, was.2)
            | inr m ↦ (was.0, run.above q m ∙ was.1, was.2)
          ]);
      runs = λ q free. elim (cases_lt q first) [
        | inl l ↦ rw (run.below q l, free) tt
        | inr l ↦ elim (cases_lt q (first + k)) [
          | inr m ↦ rw (run.above q m, free) tt
          | inl m ↦ (let at : first + (q - first) ≡ q = omega arith in
              let says : SaysOfRun ty scratch first k (entry_at pages q) = subst (λ (x : ℕ). SaysOfRun ty scratch first k (entry_at pages x)) at (says_at run enough.0 (q - first) (omega arith)) in
              in_run pages q first k ty (entry_at pages q) says (omega arith) (omega arith) (rw run.lengths inside) (λ i n. says_at run enough.0 i n))
        ]
      ];
    }
