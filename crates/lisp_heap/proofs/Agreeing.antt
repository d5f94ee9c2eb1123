-- When a parcel that agreed still agrees.
use Rattle.std.proofs.Common.{◌≡◌, ℕ, List, map, ap, ◌∙◌, sym, option_map, get_or, inl, inr}
use Rattle.std.proofs.Math.ListN.{get_or-map}
use Rattle.heap_terms.specs.declared.pages.Entry.{Entry}
use Rattle.heap_terms.specs.Heap.{NamedHeap, Thread, thread_at, with_thread, ended_thread, fresh_thread}
use Rattle.heap_laws.proofs.AtPlaces.{set_cases}
use Rattle.lisp_heap.specs.Agreement.{Agrees, small_out, run_out, run_type_of}
use Rattle.lisp_heap.specs.ParcelView.{ParcelView}
use Rattle.lisp_heap.specs.State.{state_of}
use Rattle.lisp_heap.specs.declared.states.ThreadState.{ThreadState}

-- the same states of threads and the same pages
pub Agrees-same : (a b : NamedHeap) (q : ParcelView) → b.pages ≡ a.pages → state_of (thread_at b q.owner) ≡ state_of (thread_at a q.owner) →
    Agrees a q → Agrees b q
Agrees-same a b q pages state h = record {
  cons = h.cons ∙ ap (λ (s : ThreadState). option_map (small_out a.pages) s.cons_page) (sym state)
      ∙ ap (λ (ps : List Entry). option_map (small_out ps) (thread_at b q.owner).cons_page) (sym pages);
  boxed = h.boxed ∙ ap (λ (s : ThreadState). option_map (small_out a.pages) s.boxed_page) (sym state)
      ∙ ap (λ (ps : List Entry). option_map (small_out ps) (thread_at b q.owner).boxed_page) (sym pages);
  unboxed = h.unboxed ∙ ap (λ (s : ThreadState). option_map (small_out a.pages) s.unboxed_page) (sym state)
      ∙ ap (λ (ps : List Entry). option_map (small_out ps) (thread_at b q.owner).unboxed_page) (sym pages);
  run = h.run ∙ ap (λ (s : ThreadState). option_map (run_out a.pages) s.open_run) (sym state)
      ∙ ap (λ (ps : List Entry). option_map (run_out ps) (thread_at b q.owner).open_run) (sym pages);
  run_type = h.run_type ∙ ap (λ (s : ThreadState). run_type_of a.pages s.open_run) (sym state)
      ∙ ap (λ (ps : List Entry). run_type_of ps (thread_at b q.owner).open_run) (sym pages);
}

-- where the lists of states are one, each thread's state is
pub states_at : (a b : NamedHeap) (u : ℕ) → map state_of b.threads ≡ map state_of a.threads → state_of (thread_at b u) ≡ state_of (thread_at a u)
states_at a b u same =
    sym (get_or-map state_of b.threads u (ended_thread fresh_thread))
    ∙ ap (λ (xs : List ThreadState). get_or xs u (state_of (ended_thread fresh_thread))) same
    ∙ get_or-map state_of a.threads u (ended_thread fresh_thread)

-- a parcel whose owner's pages are the thread's before, where only other parts of the thread changed
pub Agrees-thread : (a : NamedHeap) (t : ℕ) (th : Thread) (q : ParcelView) → th.cons_page ≡ (thread_at a t).cons_page →
    th.boxed_page ≡ (thread_at a t).boxed_page → th.unboxed_page ≡ (thread_at a t).unboxed_page → th.open_run ≡ (thread_at a t).open_run →
    Agrees a q → Agrees (with_thread a t th) q
Agrees-thread a t th q cons boxed unboxed run h = elim (set_cases a.threads t q.owner th (ended_thread fresh_thread)) [
  | inl same ↦ record {
    cons = h.cons ∙ ap (λ (x : Thread). option_map (small_out a.pages) x.cons_page) (sym same);
    boxed = h.boxed ∙ ap (λ (x : Thread). option_map (small_out a.pages) x.boxed_page) (sym same);
    unboxed = h.unboxed ∙ ap (λ (x : Thread). option_map (small_out a.pages) x.unboxed_page) (sym same);
    run = h.run ∙ ap (λ (x : Thread). option_map (run_out a.pages) x.open_run) (sym same);
    run_type = h.run_type ∙ ap (λ (x : Thread). run_type_of a.pages x.open_run) (sym same);
  }
  | inr changed ↦ (
      let own : thread_at (with_thread a t th) q.owner ≡ th = changed.2 in
      let before : thread_at a t ≡ thread_at a q.owner = ap (thread_at a) (sym changed.0) in
      record {
        cons = h.cons ∙ ap (λ (x : Thread). option_map (small_out a.pages) x.cons_page) (sym before)
            ∙ ap (option_map (small_out a.pages)) (sym cons) ∙ ap (λ (x : Thread). option_map (small_out a.pages) x.cons_page) (sym own);
        boxed = h.boxed ∙ ap (λ (x : Thread). option_map (small_out a.pages) x.boxed_page) (sym before)
            ∙ ap (option_map (small_out a.pages)) (sym boxed) ∙ ap (λ (x : Thread). option_map (small_out a.pages) x.boxed_page) (sym own);
        unboxed = h.unboxed ∙ ap (λ (x : Thread). option_map (small_out a.pages) x.unboxed_page) (sym before)
            ∙ ap (option_map (small_out a.pages)) (sym unboxed) ∙ ap (λ (x : Thread). option_map (small_out a.pages) x.unboxed_page) (sym own);
        run = h.run ∙ ap (λ (x : Thread). option_map (run_out a.pages) x.open_run) (sym before)
            ∙ ap (option_map (run_out a.pages)) (sym run) ∙ ap (λ (x : Thread). option_map (run_out a.pages) x.open_run) (sym own);
        run_type = h.run_type ∙ ap (λ (x : Thread). run_type_of a.pages x.open_run) (sym before)
            ∙ ap (run_type_of a.pages) (sym run) ∙ ap (λ (x : Thread). run_type_of a.pages x.open_run) (sym own);
      })
]
