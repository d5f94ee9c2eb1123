-- The regions of a parcel one by one: what a change of one leaves, and when the parcel agrees.
use Rattle.std.proofs.Common.{◌≡◌, ◌≢◌, ℕ, refl, sym, ◌∙◌, ap, Option, Some, false, option_map, ◌⊎◌, inl, inr}
use Rattle.heap_terms.specs.declared.kinds.PageType.{PageType}
use Rattle.heap_terms.specs.declared.kinds.PageType.TheVariants as types
use Rattle.heap_terms.specs.declared.events.Event.{Event}
use Rattle.heap_terms.specs.declared.programs.Program.{Program}
use Rattle.heap_terms.specs.Heap.{NamedHeap, Thread, thread_at, entry_at, open_page, with_open_page}
use Rattle.heap_terms.specs.Histories.{IsNext, after, thread_of}
use Rattle.heap_terms.specs.Valid.{IsValid}
use Rattle.heap_terms.specs.WellFormed.{IsWellFormed}
use Rattle.heap_laws.proofs.Allocating.{is_collection, limited, others_left}
use Rattle.lisp_heap.specs.Agreement.{Agrees, small_out, run_out, run_type_of}
use Rattle.lisp_heap.specs.ParcelView.{ParcelView, LeaseView, place_of, small_region, with_small}
use Rattle.lisp_heap.specs.State.{state_with_page, state_of}
use Rattle.lisp_heap.proofs.Elsewhere.{small_out_same, run_out_same, run_type_same}
use Rattle.lisp_heap.proofs.Rooms.{small_agrees}

-- two types of pages are one, or they are not
pub types_cases : (x y : PageType) → (x ≡ y) ⊎ (x ≢ y)
types_cases types.Cons types.Cons = inl refl
types_cases types.Cons types.Boxed = inr (λ e. cc)
types_cases types.Cons types.Unboxed = inr (λ e. cc)
types_cases types.Boxed types.Cons = inr (λ e. cc)
types_cases types.Boxed types.Boxed = inl refl
types_cases types.Boxed types.Unboxed = inr (λ e. cc)
types_cases types.Unboxed types.Cons = inr (λ e. cc)
types_cases types.Unboxed types.Boxed = inr (λ e. cc)
types_cases types.Unboxed types.Unboxed = inl refl

-- a parcel with another small region of a type
pub small_same : (q : ParcelView) (ty : PageType) (r : Option LeaseView) → small_region (with_small q ty r) ty ≡ r
small_same q types.Cons r = refl
small_same q types.Boxed r = refl
small_same q types.Unboxed r = refl

pub small_other : (q : ParcelView) (ty other : PageType) (r : Option LeaseView) → other ≢ ty → small_region (with_small q ty r) other ≡ small_region q other
small_other q types.Cons types.Cons r n = absurd (n refl)
small_other q types.Cons types.Boxed r n = refl
small_other q types.Cons types.Unboxed r n = refl
small_other q types.Boxed types.Cons r n = refl
small_other q types.Boxed types.Boxed r n = absurd (n refl)
small_other q types.Boxed types.Unboxed r n = refl
small_other q types.Unboxed types.Cons r n = refl
small_other q types.Unboxed types.Boxed r n = refl
small_other q types.Unboxed types.Unboxed r n = absurd (n refl)

pub small_owner : (q : ParcelView) (ty : PageType) (r : Option LeaseView) → (with_small q ty r).owner ≡ q.owner
small_owner q types.Cons r = refl
small_owner q types.Boxed r = refl
small_owner q types.Unboxed r = refl

pub small_run : (q : ParcelView) (ty : PageType) (r : Option LeaseView) → (with_small q ty r).run ≡ q.run
small_run q types.Cons r = refl
small_run q types.Boxed r = refl
small_run q types.Unboxed r = refl

-- another run leaves the small regions
pub run_small : (q : ParcelView) (r : Option LeaseView) (ty : PageType) → small_region (record q { run = r }) ty ≡ small_region q ty
run_small q r types.Cons = refl
run_small q r types.Boxed = refl
run_small q r types.Unboxed = refl

-- a thread with another open page of a type, or another open run
pub page_same : (th : Thread) (ty : PageType) (page : ℕ) → open_page (with_open_page th ty page) ty ≡ Some page
page_same th types.Cons page = refl
page_same th types.Boxed page = refl
page_same th types.Unboxed page = refl

pub page_other : (th : Thread) (ty other : PageType) (page : ℕ) → other ≢ ty → open_page (with_open_page th ty page) other ≡ open_page th other
page_other th types.Cons types.Cons page n = absurd (n refl)
page_other th types.Cons types.Boxed page n = refl
page_other th types.Cons types.Unboxed page n = refl
page_other th types.Boxed types.Cons page n = refl
page_other th types.Boxed types.Boxed page n = absurd (n refl)
page_other th types.Boxed types.Unboxed page n = refl
page_other th types.Unboxed types.Cons page n = refl
page_other th types.Unboxed types.Boxed page n = refl
page_other th types.Unboxed types.Unboxed page n = absurd (n refl)

pub page_run : (th : Thread) (ty : PageType) (page : ℕ) → (with_open_page th ty page).open_run ≡ th.open_run
page_run th types.Cons page = refl
page_run th types.Boxed page = refl
page_run th types.Unboxed page = refl

pub run_pages : (th : Thread) (run : Option ℕ) (ty : PageType) → open_page (record th { open_run = run }) ty ≡ open_page th ty
run_pages th run types.Cons = refl
run_pages th run types.Boxed = refl
run_pages th run types.Unboxed = refl

pub page_state : (th : Thread) (ty : PageType) (page : ℕ) → state_of (with_open_page th ty page) ≡ state_with_page (state_of th) ty page
page_state th types.Cons page = refl
page_state th types.Boxed page = refl
page_state th types.Unboxed page = refl

-- agreement, with the small regions by their types
pub record AgreesAt (a : NamedHeap) (q : ParcelView) : Type 0 where
  pub small : (ty : PageType) → option_map place_of (small_region q ty) ≡ option_map (small_out a.pages) (open_page (thread_at a q.owner) ty)
  pub run : option_map place_of q.run ≡ option_map (run_out a.pages) (thread_at a q.owner).open_run
  pub run_type : option_map (λ r. r.ty) q.run ≡ run_type_of a.pages (thread_at a q.owner).open_run

pub agrees_from : (a : NamedHeap) (q : ParcelView) → AgreesAt a q → Agrees a q
agrees_from a q h = record { cons = h.small types.Cons; boxed = h.small types.Boxed; unboxed = h.small types.Unboxed; run = h.run; run_type = h.run_type }

-- a small region that stayed in the parcel, on a page whose entry stayed
pub small_stays : (a b : NamedHeap) (q new : ParcelView) (ty : PageType) → Agrees a q → small_region new ty ≡ small_region q ty →
    open_page (thread_at b new.owner) ty ≡ open_page (thread_at a q.owner) ty →
    ((page : ℕ) → open_page (thread_at a q.owner) ty ≡ Some page → entry_at b.pages page ≡ entry_at a.pages page) →
    option_map place_of (small_region new ty) ≡ option_map (small_out b.pages) (open_page (thread_at b new.owner) ty)
small_stays a b q new ty agrees region page entry =
    ap (option_map place_of) region ∙ small_agrees a q ty agrees
    ∙ small_out_same a.pages b.pages (open_page (thread_at a q.owner) ty) entry
    ∙ ap (option_map (small_out b.pages)) (sym page)

-- a run that stayed, whose first page's entry stayed
pub record RunAgrees (b : NamedHeap) (new : ParcelView) : Type 0 where
  pub run : option_map place_of new.run ≡ option_map (run_out b.pages) (thread_at b new.owner).open_run
  pub run_type : option_map (λ r. r.ty) new.run ≡ run_type_of b.pages (thread_at b new.owner).open_run

pub run_stays : (a b : NamedHeap) (q new : ParcelView) → Agrees a q → new.run ≡ q.run →
    (thread_at b new.owner).open_run ≡ (thread_at a q.owner).open_run →
    ((page : ℕ) → (thread_at a q.owner).open_run ≡ Some page → entry_at b.pages page ≡ entry_at a.pages page) → RunAgrees b new
run_stays a b q new agrees region page entry = record {
  run = ap (option_map place_of) region ∙ agrees.run
      ∙ run_out_same a.pages b.pages (thread_at a q.owner).open_run entry
      ∙ ap (option_map (run_out b.pages)) (sym page);
  run_type = ap (option_map (λ (r : LeaseView). r.ty)) region ∙ agrees.run_type
      ∙ run_type_same a.pages b.pages (thread_at a q.owner).open_run entry
      ∙ ap (run_type_of b.pages) (sym page);
}

-- an event that is no collection leaves the parcels of other threads' regions
pub agrees_others : (p : Program) (a : NamedHeap) (e : Event) → IsValid p → IsWellFormed p a → IsNext p a e → is_collection e ≡ false →
    (q : ParcelView) → q.owner ≢ thread_of e → Agrees a q → Agrees (after p a e) q
agrees_others p a e valid wf next calm q other agrees =
    let left = others_left p a e (limited p valid) wf next calm q.owner other in
    let run = run_stays a (after p a e) q q agrees refl left.task.run left.entries.run in
    agrees_from (after p a e) q (record {
      small = λ ty. small_stays a (after p a e) q q ty agrees refl (left.task.pages ty) (left.entries.pages ty);
      run = run.run;
      run_type = run.run_type;
    })
