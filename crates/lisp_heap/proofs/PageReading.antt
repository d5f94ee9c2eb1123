-- What is known of the pages and the threads of a sound World.
use Rattle.std.proofs.Common.{◌≡◌, ℕ, ◌<◌, ◌≤◌, List, length, sym, ◌∙◌, subst, ap, arith, Some, get_or}
use Rattle.std.specs.Option.{ForSome}
use Rattle.heap_terms.specs.declared.kinds.PageType.{PageType}
use Rattle.heap_terms.specs.declared.kinds.PageType.TheVariants as types
use Rattle.heap_terms.specs.declared.pages.Entry.{Entry}
use Rattle.heap_terms.specs.Heap.{NamedHeap, thread_at, open_page, entry_at, fill_of}
use Rattle.heap_terms.specs.WellFormed.{IsOpenRun}
use Rattle.heap_laws.proofs.SoundHeaps.{open_run_used}
use Rattle.heap_laws.proofs.Allocating.{entry_fill}
use Rattle.lisp_heap.specs.WorldSound.{IsSound, view_of}
use Rattle.lisp_heap.specs.State.{state_of, state_page}
use Rattle.lisp_heap.specs.View.{View, heap_of}
use Rattle.lisp_heap.specs.declared.states.ThreadState.{ThreadState}
use Rattle.lisp_heap.specs.declared.world.World.TheInside.{Inside}
use Rattle.lisp_heap.proofs.Nexts.{open_page_below}
use Rattle.lisp_heap.proofs.Soundness.{heap, well_formed, states_length}
use Rattle.lisp_heap.proofs.WordReading.{state_is}

-- a page of a World has a small number
pub page_small : (s : Inside) (w : View) → IsSound s → view_of s ≡ w → (page : ℕ) → page < length (heap_of w).pages → page < 1024
page_small s w h e page lt =
    let here : page < length (heap s).pages = subst (λ (v : View). page < length (heap_of v).pages) (sym e) lt in
    omega (arith, here, (well_formed s h).pages_length, h.valid.pages_most)

-- the open pages and the open run of a thread's state are pages
state_open : (a : NamedHeap) (t : ℕ) (state : ThreadState) (ty : PageType) (page : ℕ) → state ≡ state_of (thread_at a t) → state_page state ty ≡ Some page →
    open_page (thread_at a t) ty ≡ Some page
state_open a t state types.Cons page is e = ap (λ (x : ThreadState). x.cons_page) (sym is) ∙ e
state_open a t state types.Boxed page is e = ap (λ (x : ThreadState). x.boxed_page) (sym is) ∙ e
state_open a t state types.Unboxed page is e = ap (λ (x : ThreadState). x.unboxed_page) (sym is) ∙ e

pub pages_in : (s : Inside) (w : View) → IsSound s → view_of s ≡ w → (t : ℕ) (state : ThreadState) (ty : PageType) → state ≡ state_of (thread_at (heap_of w) t) →
    ForSome (state_page state ty) (λ page. page < length (heap_of w).pages)
pages_in s w h e t state ty is =
    subst (λ (v : View). state ≡ state_of (thread_at (heap_of v) t) → ForSome (state_page state ty) (λ page. page < length (heap_of v).pages)) e
    (λ known page at. open_page_below s.program (heap s) t ty (well_formed s h) page (state_open (heap s) t state ty page known at)) is

pub run_in : (s : Inside) (w : View) → IsSound s → view_of s ≡ w → (t : ℕ) (state : ThreadState) → state ≡ state_of (thread_at (heap_of w) t) →
    ForSome state.open_run (λ page. page < length (heap_of w).pages)
run_in s w h e t state is =
    subst (λ (v : View). state ≡ state_of (thread_at (heap_of v) t) → ForSome state.open_run (λ page. page < length (heap_of v).pages)) e
    (λ known page at. (
    let run : IsOpenRun (heap s).pages page = open_run_used s.program (heap s) t page (well_formed s h) (ap (λ (x : ThreadState). x.open_run) (sym known) ∙ at) in
    omega (arith, run.inside, run.long))) is

-- a page is filled at most to its end
pub entry_most : (s : Inside) → IsSound s → (page : ℕ) (entry : Entry) → entry ≡ entry_at s.pages page → fill_of entry ≤ 512
entry_most s h page entry is =
    let same : fill_of entry ≡ fill_of (entry_at (heap s).pages page) = ap fill_of (is ∙ ap (λ (ps : List Entry). entry_at ps page) h.holds.pages) in
    omega (arith, same, (entry_fill (entry_at (heap s).pages page) ((well_formed s h).sound.entries page)).most)

-- the state that was read is that of the thread of the view
pub state_seen : (s : Inside) (w : View) → IsSound s → view_of s ≡ w → (t : ℕ) (state : ThreadState) → t < length s.states → state ≡ get_or s.states t state →
    state ≡ state_of (thread_at (heap_of w) t)
state_seen s w h e t state lt is =
    subst (λ (v : View). state ≡ state_of (thread_at (heap_of v) t)) e (state_is s h t state (omega (arith, states_length s h)) is)
