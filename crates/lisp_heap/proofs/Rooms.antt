-- Where a thread has room for an object, a parcel that agrees has room for it too.
use Rattle.std.proofs.Common.{◌≡◌, ℕ, ◌+◌, ◌*◌, ◌<◌, ◌≤◌, subst, ap, ◌∙◌, sym, refl, arith, Option, Some, None, Bool, true, false, option_map, inl, inr}
use Rattle.std.proofs.lemmas.Bool.{cases_Bool, false≢true}
use Rattle.std.specs.Prelude.{if◌then◌else◌, IsSomeAnd}
use Rattle.heap_terms.specs.declared.kinds.Kind.{Kind}
use Rattle.heap_terms.specs.declared.kinds.PageType.{PageType}
use Rattle.heap_terms.specs.declared.kinds.PageType.TheVariants as types
use Rattle.heap_terms.specs.declared.pages.Entry.{Entry}
use Rattle.heap_terms.specs.declared.pages.Entry.TheVariants as entries
use Rattle.heap_terms.specs.declared.programs.Program.{Program}
use Rattle.heap_terms.specs.Heap.{NamedHeap, thread_at, entry_at, fill_of, open_page}
use Rattle.heap_terms.specs.Layout.{page_words, page_type_of, size_of}
use Rattle.heap_terms.specs.Regions.{has_room, is_small, pages_needed, run_has_room}
use Rattle.heap_terms.specs.WellFormed.{IsWellFormed}
use Rattle.heap_laws.proofs.Allocating.{has_page, has_run, needs_enough}
use Rattle.lisp_heap.specs.declared.parcels.RegionPlace.{RegionPlace}
use Rattle.lisp_heap.specs.Agreement.{Agrees, small_out, run_out, run_pages_of, run_type_of, type_of}
use Rattle.lisp_heap.specs.ParcelView.{ParcelView, LeaseView, place_of, small_region, room_of, Fits, HasRoom}

-- a region of a parcel that agrees
pub some_place : (o : Option LeaseView) (x : RegionPlace) → option_map place_of o ≡ Some x → (r : LeaseView) × (o ≡ Some r) × (place_of r ≡ x)
some_place None x e = cc
some_place (Some r) x e = (r, refl, cc)

pub small_agrees : (a : NamedHeap) (q : ParcelView) (ty : PageType) → Agrees a q →
    option_map place_of (small_region q ty) ≡ option_map (small_out a.pages) (open_page (thread_at a q.owner) ty)
small_agrees a q types.Cons h = h.cons
small_agrees a q types.Boxed h = h.boxed
small_agrees a q types.Unboxed h = h.unboxed

-- a small region has as much room as its page
small_fits : (kind : Kind) (n page fill : ℕ) (r : LeaseView) → is_small (size_of kind n) ≡ true →
    place_of r ≡ record { first = page; pages = 1; next = page_words * page + fill } → fill + size_of kind n ≤ page_words → Fits kind n r
small_fits kind n page fill r small place room =
    let first : r.first ≡ page = ap (λ (x : RegionPlace). x.first) place in
    let pages : r.pages ≡ 1 = ap (λ (x : RegionPlace). x.pages) place in
    let next_is : r.next ≡ page_words * page + fill = ap (λ (x : RegionPlace). x.next) place in
    let enough : size_of kind n ≤ room_of r = omega (arith, first, pages, next_is, room) in
    (enough, (λ large. absurd (false≢true (sym large ∙ small))))

-- a run has room for the object for which it was opened
run_fits : (kind : Kind) (n page : ℕ) (r : LeaseView) → is_small (size_of kind n) ≡ false → r.ty ≡ page_type_of kind →
    place_of r ≡ record { first = page; pages = pages_needed (size_of kind n); next = page_words * page } → Fits kind n r
run_fits kind n page r large type place =
    let first : r.first ≡ page = ap (λ (x : RegionPlace). x.first) place in
    let pages : r.pages ≡ pages_needed (size_of kind n) = ap (λ (x : RegionPlace). x.pages) place in
    let next_is : r.next ≡ page_words * page = ap (λ (x : RegionPlace). x.next) place in
    let most : size_of kind n ≤ page_words * pages_needed (size_of kind n) = needs_enough (size_of kind n) large in
    (run_room (size_of kind n) (pages_needed (size_of kind n)) page r first pages next_is most, (λ _. type))
  where
    run_room : (size k page : ℕ) (r : LeaseView) → r.first ≡ page → r.pages ≡ k → r.next ≡ page_words * page → size ≤ page_words * k → size ≤ room_of r
    run_room size k page r first pages next_is most = omega arith

fits_in : (kind : Kind) (n : ℕ) (o : Option LeaseView) (r : LeaseView) → o ≡ Some r → Fits kind n r → IsSomeAnd o (Fits kind n)
fits_in kind n o r e fits = subst (λ (x : Option LeaseView). IsSomeAnd x (Fits kind n)) (sym e) fits

pub has_room_in : (p : Program) (a : NamedHeap) (q : ParcelView) (kind : Kind) (n : ℕ) → IsWellFormed p a → Agrees a q →
    has_room a q.owner kind (size_of kind n) ≡ true → HasRoom q kind n
has_room_in p a q kind n wf agrees room = elim (cases_Bool (is_small (size_of kind n))) [
  | inl small ↦ (
      let page = has_page p a q.owner kind (size_of kind n) wf small room in
      let region = some_place (small_region q (page_type_of kind)) (small_out a.pages page.page)
      (small_agrees a q (page_type_of kind) agrees ∙ ap (option_map (small_out a.pages)) page.open_is) in
      let place : place_of (region.0) ≡ record { first = page.page; pages = 1; next = page_words * page.page + page.fill } =
      region.2 ∙ ap (λ (e : Entry). record { first = page.page; pages = 1; next = page_words * page.page + fill_of e }) page.entry in
      subst (λ (b : Bool). IsSomeAnd (if b then small_region q (page_type_of kind) else q.run) (Fits kind n)) (sym small)
      (fits_in kind n (small_region q (page_type_of kind)) (region.0) region.1 (small_fits kind n page.page page.fill (region.0) small place page.room)))
  | inr large ↦ (
      let in_run : run_has_room a.pages (thread_at a q.owner).open_run (page_type_of kind) (size_of kind n) ≡ true = rw large at room in
      let run = has_run p a q.owner (page_type_of kind) (size_of kind n) wf in_run in
      let entry = first_entry run.first (pages_needed (size_of kind n)) run.long run.each in
      let region = some_place q.run (record { first = run.first; pages = pages_needed (size_of kind n); next = page_words * run.first })
      (agrees.run ∙ ap (option_map (run_out a.pages)) run.open_is
      ∙ ap (λ (e : Entry). Some (record { first = run.first; pages = run_pages_of e; next = page_words * run.first })) entry) in
      let types_agree : option_map (λ (r : LeaseView). r.ty) q.run ≡ Some (page_type_of kind) =
      agrees.run_type ∙ ap (run_type_of a.pages) run.open_is ∙ ap type_of entry in
      let type : (region.0).ty ≡ page_type_of kind =
      type_is (sym (ap (option_map (λ (r : LeaseView). r.ty)) region.1) ∙ types_agree) in
      subst (λ (b : Bool). IsSomeAnd (if b then small_region q (page_type_of kind) else q.run) (Fits kind n)) (sym large)
      (fits_in kind n q.run (region.0) region.1 (run_fits kind n run.first (region.0) large type region.2)))
]
  where
    type_is : {x y : PageType} → Some x ≡ Some y → x ≡ y
    type_is e = cc

    first_entry : (first k : ℕ) → 2 ≤ k → ((i : ℕ) → i < k → entry_at a.pages (first + i) ≡ entries.Used (page_type_of kind) 0 0 first k) →
        entry_at a.pages first ≡ entries.Used (page_type_of kind) 0 0 first k
    first_entry first k long each =
        let zero : first + 0 ≡ first = omega arith in
        ap (λ (x : ℕ). entry_at a.pages x) (sym zero) ∙ each 0 (omega arith)
