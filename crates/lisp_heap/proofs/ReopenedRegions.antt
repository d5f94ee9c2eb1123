-- Parcels that are made anew agree.
use Rattle.std.proofs.Common.{◌≡◌, ℕ, ◌+◌, ◌*◌, ◌<◌, ◌≤◌, List, length, subst, ap, ◌∙◌, sym, refl, arith, Option, Some, None, option_map}
use Rattle.std.proofs.lemmas.Bool.{ne_eqb}
use Rattle.std.specs.Prelude.{Result, Ok, Err, OnOk}
use Rattle.std.specs.Option.{ForSome}
use Rattle.heap_terms.specs.declared.kinds.PageType.{PageType}
use Rattle.heap_terms.specs.declared.kinds.PageType.TheVariants as types
use Rattle.heap_terms.specs.declared.pages.Entry.{Entry}
use Rattle.heap_terms.specs.declared.pages.Entry.TheVariants.{Free, Used}
use Rattle.heap_terms.specs.Heap.{NamedHeap, thread_at, entry_at}
use Rattle.heap_terms.specs.Layout.{page_words}
use Rattle.heap_terms.specs.WellFormed.{IsOpenRun, IsOpenRunPage}
use Rattle.lisp_heap.specs.Agreement.{Agrees, small_out, run_out, run_type_of, type_of}
use Rattle.lisp_heap.specs.ParcelView.{ParcelView, LeaseView, place_of, lease_at, small_region, with_lease, with_small}
use Rattle.lisp_heap.specs.Recalling.{leases_on, lease_from, leases_of}
use Rattle.alloc_region.specs.View.{RegionView, reopened_region}
use Rattle.lisp_heap.specs.State.{state_of}
use Rattle.lisp_heap.specs.View.{View, heap_of}
use Rattle.lisp_heap.specs.WorldSound.{IsSound, view_of}
use Rattle.lisp_heap.specs.declared.world.World.TheInside.{Inside}
use Rattle.lisp_heap.proofs.Soundness.{heap, well_formed}
use Rattle.lisp_heap.specs.declared.states.ThreadState.{ThreadState}

-- a parcel without a small region of a type, in which none was put
pub no_region : (q : ParcelView) (ty : PageType) → small_region q ty ≡ None → q ≡ with_small q ty None
no_region q types.Cons e = ap (λ (x : Option LeaseView). record q { cons = x }) e
no_region q types.Boxed e = ap (λ (x : Option LeaseView). record q { boxed = x }) e
no_region q types.Unboxed e = ap (λ (x : Option LeaseView). record q { unboxed = x }) e

-- the entry of the first page of an open run
pub run_entry : (pages : List Entry) (first : ℕ) → IsOpenRun pages first → (ty : PageType) → (g fill start k : ℕ) → entry_at pages first ≡ Used ty g fill start k →
    (2 ≤ k) × (first + k ≤ length pages)
run_entry pages first run ty g fill start k e =
    let zero : first + 0 ≡ first = omega arith in
    let page : IsOpenRunPage run.ty first run.k (Used ty g fill start k) =
    subst (λ (x : Entry). IsOpenRunPage run.ty first run.k x) (ap (λ (n : ℕ). entry_at pages n) zero ∙ e) (run.each 0 (let long = run.long in omega arith)) in
    let same : k ≡ run.k = page.4 in
    (let long = run.long in omega arith, let inside = run.inside in omega arith)

small_places : (pages : List Entry) (ty : PageType) (o : Option ℕ) → option_map place_of (leases_on pages ty o) ≡ option_map (small_out pages) o
small_places pages ty None = refl
small_places pages ty (Some page) = refl

run_places : (pages : List Entry) (o : Option ℕ) → ForSome o (IsOpenRun pages) → option_map place_of (leases_of pages o) ≡ option_map (run_out pages) o
run_places pages None runs = refl
run_places pages (Some first) runs = by_entry (entry_at pages first) refl
  where
    by_entry : (e : Entry) → entry_at pages first ≡ e → option_map place_of (lease_from first (entry_at pages first)) ≡ Some (run_out pages first)
    by_entry Free is = absurd (subst (λ (x : Entry). IsOpenRunPage (runs first refl).ty first (runs first refl).k x)
        (ap (λ (n : ℕ). entry_at pages n) (let zero : first + 0 ≡ first = omega arith in zero) ∙ is) ((runs first refl).each 0 (let long = (runs first refl).long in omega arith)))
    by_entry (Used ty g fill start k) is = rw is refl

run_types : (pages : List Entry) (o : Option ℕ) → option_map (λ (r : LeaseView). r.ty) (leases_of pages o) ≡ run_type_of pages o
run_types pages None = refl
run_types pages (Some first) = by_entry (entry_at pages first)
  where
    by_entry : (e : Entry) → option_map (λ (r : LeaseView). r.ty) (lease_from first e) ≡ type_of e
    by_entry Free = refl
    by_entry (Used ty g fill start k) = refl

-- a parcel of a thread with the regions of its state
abbrev pub anew : List Entry → ℕ → ThreadState → ParcelView
anew pages t s = record {
  owner = t;
  cons = leases_on pages types.Cons s.cons_page;
  boxed = leases_on pages types.Boxed s.boxed_page;
  unboxed = leases_on pages types.Unboxed s.unboxed_page;
  run = leases_of pages s.open_run;
}

pub anew_agrees : (a : NamedHeap) (t : ℕ) (s : ThreadState) → s ≡ state_of (thread_at a t) → ForSome s.open_run (IsOpenRun a.pages) → Agrees a (anew a.pages t s)
anew_agrees a t s is runs = record {
  cons = small_places a.pages types.Cons s.cons_page ∙ ap (λ (x : ThreadState). option_map (small_out a.pages) x.cons_page) is;
  boxed = small_places a.pages types.Boxed s.boxed_page ∙ ap (λ (x : ThreadState). option_map (small_out a.pages) x.boxed_page) is;
  unboxed = small_places a.pages types.Unboxed s.unboxed_page ∙ ap (λ (x : ThreadState). option_map (small_out a.pages) x.unboxed_page) is;
  run = run_places a.pages s.open_run runs ∙ ap (λ (x : ThreadState). option_map (run_out a.pages) x.open_run) is;
  run_type = run_types a.pages s.open_run ∙ ap (λ (x : ThreadState). run_type_of a.pages x.open_run) is;
}

-- the run of a large object was put into a parcel
pub adopted_run : (pages : List Entry) (q new : ParcelView) (run : Option ℕ) (r : RegionView) (ty : PageType) (g fill start first k : ℕ) → run ≡ Some first →
    entry_at pages first ≡ Used ty g fill start k → 2 ≤ k → r ≡ reopened_region ty first k (page_words * first) →
    new ≡ with_lease q (lease_at r.ty r.first r.pages r.next) → new ≡ record q { run = leases_of pages run }
adopted_run pages q new run r ty g fill start first k is entry long opened adopted =
    let lease = lease_at ty first k (page_words * first) in
    let long_run : with_lease q lease ≡ record q { run = Some lease } = rw (ne_eqb k 1 (λ one. omega (arith, long, one))) refl in
    let found : leases_of pages run ≡ Some lease = ap (leases_of pages) is ∙ ap (lease_from first) entry in
    adopted ∙ ap (λ (x : RegionView). with_lease q (lease_at x.ty x.first x.pages x.next)) opened ∙ long_run ∙ ap (λ (x : Option LeaseView). record q { run = x }) (sym found)

-- what is known of an open run of a sound World
pub record RunThere (s : Inside) (w : View) (first : ℕ) : Type 0 where
  pub below : first < length s.pages
  pub small : first < 1024
  pub pages : s.pages ≡ (heap_of w).pages
  pub count : length (heap_of w).pages ≤ 1024

pub run_there : (s : Inside) (w : View) (first : ℕ) → IsSound s → view_of s ≡ w → IsOpenRun (heap_of w).pages first → RunThere s w first
run_there s w first h e run =
    let pages : s.pages ≡ (heap_of w).pages = subst (λ (v : View). s.pages ≡ (heap_of v).pages) e h.holds.pages in
    let same : length s.pages ≡ length (heap_of w).pages = ap (λ (ps : List Entry). length ps) pages in
    let here : length s.pages ≡ length (heap s).pages = ap (λ (ps : List Entry). length ps) h.holds.pages in
    let long = run.long in
    let inside = run.inside in
    let count : length (heap_of w).pages ≤ 1024 = omega (arith, same, here, (well_formed s h).pages_length, h.valid.pages_most) in
    record { below = omega arith; small = omega arith; pages = pages; count = count }

-- a step that keeps its parcel where it fails
pub on_ok : {A E P Q : Type 0} (r : Result A E) → (P → Q) → OnOk r P → OnOk r Q
on_ok (Ok x) f h = f h
on_ok (Err e) f h = h
