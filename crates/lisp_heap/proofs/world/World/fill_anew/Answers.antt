-- The regions of a thread, opened again, are those that are out.
use Rattle.std.proofs.Common.{◌≡◌, ℕ, sym, ◌∙◌, ap, subst}
use Rattle.heap_terms.specs.declared.kinds.PageType.TheVariants as types
use Rattle.heap_terms.specs.Heap.{thread_at}
use Rattle.heap_laws.proofs.SoundHeaps.{open_run_used}
use Rattle.lisp_heap.specs.Agreement.{Agrees}
use Rattle.lisp_heap.specs.ParcelView.{ParcelView, empty_parcel, with_small}
use Rattle.lisp_heap.specs.Recalling.{leases_on, leases_of}
use Rattle.lisp_heap.specs.State.{state_of}
use Rattle.lisp_heap.specs.View.{heap_of}
use Rattle.lisp_heap.specs.declared.states.ThreadState.{ThreadState}
use Rattle.lisp_heap.proofs.ReopenedRegions.{anew, anew_agrees, on_ok}
use Rattle.lisp_heap.proofs.world.World.fill_anew.Goals as goal

pub take_page-requires-clause-page : goal.take_page-requires-clause-page
take_page-requires-clause-page c = c.thread_state-state.ensures.pages types.Cons

pub take_page-requires-2-clause-page : goal.take_page-requires-2-clause-page
take_page-requires-2-clause-page c = c.thread_state-state.ensures.pages types.Boxed

pub take_page-requires-3-clause-page : goal.take_page-requires-3-clause-page
take_page-requires-3-clause-page c = c.thread_state-state.ensures.pages types.Unboxed

pub returns-clause-agrees : goal.returns-clause-agrees
returns-clause-agrees c = on_ok c.take_run.result (λ last. (
    let a = heap_of c.args.self.now in
    let t = c.args.parcel.now.owner in
    let s = c.thread_state-state.result in
    let first : c.take_page.new.parcel ≡ with_small (empty_parcel t) types.Cons (leases_on a.pages types.Cons s.cons_page) =
    c.in_ok-take_page.ensures ∙ ap (λ (q : ParcelView). with_small q types.Cons (leases_on a.pages types.Cons s.cons_page)) c.requires.empty in
    let second = c.in_ok-take_page-2.ensures ∙ ap (λ (q : ParcelView). with_small q types.Boxed (leases_on a.pages types.Boxed s.boxed_page)) first in
    let third = c.in_ok-take_page-3.ensures ∙ ap (λ (q : ParcelView). with_small q types.Unboxed (leases_on a.pages types.Unboxed s.unboxed_page)) second in
    let whole : c.take_run.new.parcel ≡ anew a.pages t s = last ∙ ap (λ (q : ParcelView). record q { run = leases_of a.pages s.open_run }) third in
    let is : s ≡ state_of (thread_at a t) = c.thread_state-state.ensures.state ∙ ap (λ (u : ℕ). state_of (thread_at a u)) c.owner.ensures in
    subst (λ (q : ParcelView). Agrees a q) (sym whole) (anew_agrees a t s is
    (λ page at. open_run_used c.args.self.now.program a t page c.history-history.ensures.well_formed (sym (ap (λ (x : ThreadState). x.open_run) is) ∙ at))))) c.take_run.ensures
