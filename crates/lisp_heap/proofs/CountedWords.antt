-- The words of a commit are counted: what a World keeps stands for the heap in which they are.
use Rattle.std.proofs.Common.{◌≡◌, ℕ, ◌+◌, ◌<◌, List, length, map, Some, inl, inr, refl, sym, ◌∙◌, ap, arith, get_or, set, length-set}
use Rattle.std.proofs.lemmas.Bool.{cases_Bool}
use Rattle.std.proofs.lemmas.List.{set-set}
use Rattle.std.specs.Prelude.{if◌then◌else◌, ◌==◌, unwrap_or}
use Rattle.heap_terms.specs.declared.programs.Program.{Program}
use Rattle.heap_terms.specs.Heap.{NamedHeap, Thread, thread_at, with_thread}
use Rattle.heap_terms.specs.Histories.{advance}
use Rattle.heap_terms.specs.Regions.{counting, triggers}
use Rattle.lisp_heap.specs.Agreement.{Agrees}
use Rattle.lisp_heap.specs.CellsView.{CellsView}
use Rattle.lisp_heap.specs.Counting.{counted_after, states_counted, triggered_after}
use Rattle.lisp_heap.specs.ParcelView.{ParcelView}
use Rattle.lisp_heap.specs.Standing.{CellsStand, pins_of}
use Rattle.lisp_heap.specs.State.{fresh_state, state_of, with_asked}
use Rattle.lisp_heap.specs.declared.states.ThreadState.{ThreadState}
use Rattle.lisp_heap.proofs.Agreeing.{Agrees-thread}
use Rattle.lisp_heap.proofs.CellLemmas.{CellsStand-with_thread}
use Rattle.lisp_heap.proofs.Threads.{thread_at-same}
use Rattle.lisp_heap.proofs.Unchanged.{state_read, states_set, with_thread-pins}

module _ (p : Program) (b : NamedHeap) (t size : ℕ) where
  abbrev counted_heap : NamedHeap
  counted_heap = counting p b t size

  -- the thread that owes a collection
  abbrev asked : Thread
  asked = record (thread_at b t) { owed = Some (unwrap_or (thread_at b t).owed 0) }

  -- most of the heap is the same
  pub record IsSameBut : Type 0 where
    pub objects : counted_heap.objects ≡ b.objects
    pub pages : counted_heap.pages ≡ b.pages
    pub cum : counted_heap.cum ≡ b.cum
    pub num : counted_heap.num ≡ b.num
    pub finalizers : counted_heap.finalizers ≡ b.finalizers
    pub queue : counted_heap.queue ≡ b.queue
    pub pins : map pins_of counted_heap.threads ≡ map pins_of b.threads
    pub threads : length counted_heap.threads ≡ length b.threads

  pub counting-same : IsSameBut
  counting-same = elim (cases_Bool (triggers p b size)) [
    | inl reached ↦ record {
      objects = rw reached refl;
      pages = rw reached refl;
      cum = rw reached refl;
      num = rw reached refl;
      finalizers = rw reached refl;
      queue = rw reached refl;
      pins = rw reached (with_thread-pins b t asked refl);
      threads = rw reached (length-set b.threads t asked);
    }
    | inr below ↦ record {
      objects = rw below refl;
      pages = rw below refl;
      cum = rw below refl;
      num = rw below refl;
      finalizers = rw below refl;
      queue = rw below refl;
      pins = rw below refl;
      threads = rw below refl;
    }
  ]

  pub counting-counted : counted_after p.auto b.counted b.triggered size ≡ counted_heap.counted
  counting-counted = elim (cases_Bool (triggers p b size)) [
    | inl reached ↦ rw reached refl
    | inr below ↦ rw below refl
  ]

  pub counting-triggered : triggered_after p.auto b.counted b.triggered size ≡ counted_heap.triggered
  counting-triggered = elim (cases_Bool (triggers p b size)) [
    | inl reached ↦ rw reached refl
    | inr below ↦ rw below refl
  ]

  cells_again : (c : NamedHeap) (v : CellsView) (counted triggered : ℕ) → CellsStand c v → CellsStand (record c { counted = counted; triggered = triggered }) v
  cells_again c v counted triggered h = record {
    stack_length = h.stack_length;
    exact_length = h.exact_length;
    raws_length = h.raws_length;
    shared_length = h.shared_length;
    stack = h.stack;
    exact = h.exact;
    raws = h.raws;
    shared = h.shared;
  }

  pub CellsStand-counting : (v : CellsView) → CellsStand b v → CellsStand counted_heap v
  CellsStand-counting v h = elim (cases_Bool (triggers p b size)) [
    | inl reached ↦ rw reached (cells_again (with_thread b t asked) v 0 (b.triggered + 1) (CellsStand-with_thread b t asked v refl refl refl h))
    | inr below ↦ rw below (cells_again b v (if p.auto == 0 then b.counted else b.counted + size) b.triggered h)
  ]

  agrees_again : (c : NamedHeap) (q : ParcelView) (counted triggered : ℕ) → Agrees c q → Agrees (record c { counted = counted; triggered = triggered }) q
  agrees_again c q counted triggered h = record { cons = h.cons; boxed = h.boxed; unboxed = h.unboxed; run = h.run; run_type = h.run_type }

  pub counting-agrees : (q : ParcelView) → Agrees b q → Agrees counted_heap q
  counting-agrees q h = elim (cases_Bool (triggers p b size)) [
    | inl reached ↦ rw reached (agrees_again (with_thread b t asked) q 0 (b.triggered + 1) (Agrees-thread b t asked q refl refl refl refl h))
    | inr below ↦ rw below (agrees_again b q (if p.auto == 0 then b.counted else b.counted + size) b.triggered h)
  ]

  -- the states, of which the own one is one command further
  module _ (states : List ThreadState) (there : t < length b.threads) (is : states ≡ map state_of (advance b t).threads) where
    abbrev moved : Thread
    moved = record (thread_at b t) { done = (thread_at b t).done + 1 }

    abbrev moved_asked : Thread
    moved_asked = record asked { done = asked.done + 1 }

    own : get_or states t fresh_state ≡ state_of moved
    own = state_read (advance b t) states t fresh_state is (omega (arith, there, length-set b.threads t moved)) ∙ ap state_of (thread_at-same b t moved there)

    asked_states : with_asked states t ≡ map state_of (advance (with_thread b t asked) t).threads
    asked_states =
        states_set (advance b t) states t moved_asked (record (get_or states t fresh_state) { owed = Some (unwrap_or (get_or states t fresh_state).owed 0) }) is
        (ap (λ (x : ThreadState). record x { owed = Some (unwrap_or x.owed 0) }) own)
        ∙ ap (map state_of) (set-set b.threads t moved moved_asked)
        ∙ ap (map state_of) (sym (set-set b.threads t asked moved_asked))
        ∙ ap (λ (x : Thread). map state_of (set (set b.threads t asked) t (record x { done = x.done + 1 }))) (sym (thread_at-same b t asked there))

    pub counting-states : states_counted p.auto b.counted b.triggered states t size ≡ map state_of (advance counted_heap t).threads
    counting-states = elim (cases_Bool (triggers p b size)) [
      | inl reached ↦ rw reached asked_states
      | inr below ↦ rw below is
    ]
