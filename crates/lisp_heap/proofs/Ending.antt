-- What a World keeps after the end of a thread.
use Rattle.std.proofs.Common.{◌≡◌, ◌≢◌, ℕ, ◌+◌, ◌-◌, ◌*◌, ◌<◌, ◌≤◌, List, [], ◌++◌, length, take, drop, replicate, refl, sym, ◌∙◌, subst, ap, arith, get_or, length-set, inl, inr, Option, option_map, true, ◌⊎◌}
use Rattle.std.proofs.lemmas.Bool.{cases_eq, cases_lt}
use Rattle.std.proofs.Math.Nat.{mul-le-mul_left, mul-add}
use Rattle.std.proofs.lemmas.List.{length-append, length-drop, length-take-le, length-replicate, get_or-replicate, get_or-take, get_or-drop, get_or-append-add, get_or_append_left}
use Rattle.std.specs.Prelude.{slice_index, slice_index_or}
use Rattle.heap_terms.specs.declared.cells.Value.{Value}
use Rattle.heap_terms.specs.declared.events.Event.TheVariants.{Ended}
use Rattle.heap_terms.specs.declared.pages.Next.TheVariants as nexts
use Rattle.heap_terms.specs.declared.programs.Program.{Program}
use Rattle.heap_terms.specs.Heap.{NamedHeap, Thread, thread_at, with_thread, ended_thread, zero_value}
use Rattle.heap_terms.specs.Histories.{IsNext, after, next}
use Rattle.heap_terms.specs.Objects.{Object}
use Rattle.heap_terms.specs.Spelling.{word_of}
use Rattle.lisp_heap.specs.Agreement.{Agrees, small_out, run_out, run_type_of}
use Rattle.lisp_heap.specs.CellsView.{CellsView, spot, raw_spot, cleared, with_cleared}
use Rattle.lisp_heap.specs.ParcelView.{ParcelView, empty_parcel}
use Rattle.lisp_heap.specs.Parts.{Parts}
use Rattle.lisp_heap.specs.PinsView.{with_pins_cleared}
use Rattle.lisp_heap.specs.Standing.{CellsStand, Holds}
use Rattle.lisp_heap.specs.State.{state_of, fresh_state, with_ended}
use Rattle.lisp_heap.specs.declared.states.ThreadState.{ThreadState}
use Rattle.lisp_heap.proofs.Agreeing.{Agrees-same}
use Rattle.lisp_heap.proofs.Threads.{thread_at-same, thread_at-other}
use Rattle.lisp_heap.proofs.Unchanged.{WordsStand-same, LabelsStand-same, StatsStand-same, state_read, states_set, pins_set}

-- ---- a list with a part replaced

spliced_length : (words zeros : List ℕ) (from n : ℕ) → length zeros ≡ n → from + n ≤ length words →
    length (take from words ++ zeros ++ drop (from + n) words) ≡ length words
spliced_length words zeros from n z h =
    let low : from ≤ length words = omega arith in
    omega (
      arith,
      length-append (take from words ++ zeros) (drop (from + n) words),
      length-append (take from words) zeros,
      length-take-le from words low,
      length-drop (from + n) words,
    )

front_length : (words zeros : List ℕ) (from n : ℕ) → length zeros ≡ n → from + n ≤ length words → length (take from words ++ zeros) ≡ from + n
front_length words zeros from n z h =
    let low : from ≤ length words = omega arith in
    omega (arith, length-append (take from words) zeros, length-take-le from words low)

spliced_before : (words zeros : List ℕ) (from n i : ℕ) → length zeros ≡ n → from + n ≤ length words → i < from →
    get_or (take from words ++ zeros ++ drop (from + n) words) i 0 ≡ get_or words i 0
spliced_before words zeros from n i z h lt =
    let low : from ≤ length words = omega arith in
    let first : i < length (take from words) = omega (arith, length-take-le from words low) in
    let both : i < length (take from words ++ zeros) = omega (arith, front_length words zeros from n z h) in
    get_or_append_left (take from words ++ zeros) (drop (from + n) words) 0 i both
    ∙ get_or_append_left (take from words) zeros 0 i first ∙ get_or-take from words i 0 lt

spliced_in : (words zeros : List ℕ) (from n i : ℕ) → length zeros ≡ n → from + n ≤ length words → i < n →
    get_or (take from words ++ zeros ++ drop (from + n) words) (from + i) 0 ≡ get_or zeros i 0
spliced_in words zeros from n i z h lt =
    let low : from ≤ length words = omega arith in
    let both : from + i < length (take from words ++ zeros) = omega (arith, front_length words zeros from n z h) in
    get_or_append_left (take from words ++ zeros) (drop (from + n) words) 0 (from + i) both
    ∙ subst (λ (k : ℕ). get_or (take from words ++ zeros) (k + i) 0 ≡ get_or zeros i 0) (length-take-le from words low)
    (get_or-append-add (take from words) zeros i 0)

spliced_after : (words zeros : List ℕ) (from n i : ℕ) → length zeros ≡ n → from + n ≤ length words →
    get_or (take from words ++ zeros ++ drop (from + n) words) (from + n + i) 0 ≡ get_or words (from + n + i) 0
spliced_after words zeros from n i z h =
    subst (λ (k : ℕ). get_or (take from words ++ zeros ++ drop (from + n) words) (k + i) 0 ≡ get_or (drop (from + n) words) i 0) (front_length words zeros from n z h)
    (get_or-append-add (take from words ++ zeros) (drop (from + n) words) i 0)
    ∙ get_or-drop (from + n) words i 0

-- ---- the cells of one thread cleared

cleared_length : (each : ℕ) (words : List ℕ) (t : ℕ) → each * t + each ≤ length words → length (cleared each words t) ≡ length words
cleared_length each words t h = spliced_length words (replicate each 0) (each * t) each (length-replicate {A = ℕ} each 0) h

cleared_own : (each : ℕ) (words : List ℕ) (t i : ℕ) → each * t + each ≤ length words → i < each → slice_index (cleared each words t) (each * t + i) ≡ 0
cleared_own each words t i h lt =
    spliced_in words (replicate each 0) (each * t) each i (length-replicate {A = ℕ} each 0) h lt ∙ get_or-replicate each i 0 0 lt

-- the cells of another thread lie before or behind those of thread t
beside : (each t u i : ℕ) → i < each → u ≢ t → (each * u + i < each * t) ⊎ (each * t + each ≤ each * u + i)
beside each t u i lt n = elim (cases_lt u t) [
  | inl l ↦ inl (
      let steps : each * (u + 1) ≤ each * t = mul-le-mul_left each (omega arith) in
      let one : each * (u + 1) ≡ each * u + each * 1 = mul-add each u 1 in
      omega arith)
  | inr r ↦ elim (cases_eq u t) [
    | inl e ↦ absurd (n e)
    | inr apart ↦ inr (
        let above : t + 1 ≤ u = omega arith in
        let steps : each * (t + 1) ≤ each * u = mul-le-mul_left each above in
        let one : each * (t + 1) ≡ each * t + each * 1 = mul-add each t 1 in
        omega arith)
  ]
]

cleared_other : (each : ℕ) (words : List ℕ) (t u i : ℕ) → each * t + each ≤ length words → i < each → u ≢ t →
    slice_index (cleared each words t) (each * u + i) ≡ slice_index words (each * u + i)
cleared_other each words t u i h lt n = elim (beside each t u i lt n) [
  | inl before ↦ spliced_before words (replicate each 0) (each * t) each (each * u + i) (length-replicate {A = ℕ} each 0) h before
  | inr behind ↦ (
      let there : each * t + each + (each * u + i - (each * t + each)) ≡ each * u + i = omega arith in
      subst (λ (k : ℕ). slice_index (cleared each words t) k ≡ slice_index words k) there
      (spliced_after words (replicate each 0) (each * t) each (each * u + i - (each * t + each)) (length-replicate {A = ℕ} each 0) h))
]

-- one list of cells, where thread t's are zeros from now on
cleared_stands : (objects : List (Option Object)) (words : List ℕ) (old new : List Value) (t u i : ℕ) → 16 * t + 16 ≤ length words → i < 16 →
    (u ≡ t → new ≡ replicate 16 zero_value) → (u ≢ t → new ≡ old) → slice_index words (spot u i) ≡ word_of objects (slice_index_or old i zero_value) →
    slice_index (cleared 16 words t) (spot u i) ≡ word_of objects (slice_index_or new i zero_value)
cleared_stands objects words old new t u i h lt own other before = elim (cases_eq u t) [
  | inl e ↦ (
      subst (λ (k : ℕ). slice_index (cleared 16 words t) (spot k i) ≡ 0) (sym e) (cleared_own 16 words t i h lt)
      ∙ ap (word_of objects) (sym (get_or-replicate 16 i zero_value zero_value lt))
      ∙ ap (λ (xs : List Value). word_of objects (get_or xs i zero_value)) (sym (own e)))
  | inr n ↦ (
      cleared_other 16 words t u i h lt n ∙ before ∙ ap (λ (xs : List Value). word_of objects (get_or xs i zero_value)) (sym (other n)))
]

-- likewise the raw cells
raws_cleared : (words old new : List ℕ) (t u i : ℕ) → 8 * t + 8 ≤ length words → i < 8 → (u ≡ t → new ≡ replicate 8 0) → (u ≢ t → new ≡ old) →
    slice_index words (raw_spot u i) ≡ slice_index_or old i 0 → slice_index (cleared 8 words t) (raw_spot u i) ≡ slice_index_or new i 0
raws_cleared words old new t u i h lt own other before = elim (cases_eq u t) [
  | inl e ↦ (
      subst (λ (k : ℕ). slice_index (cleared 8 words t) (raw_spot k i) ≡ 0) (sym e) (cleared_own 8 words t i h lt)
      ∙ sym (get_or-replicate 8 i 0 0 lt) ∙ ap (λ (xs : List ℕ). get_or xs i 0) (sym (own e)))
  | inr n ↦ cleared_other 8 words t u i h lt n ∙ before ∙ ap (λ (xs : List ℕ). get_or xs i 0) (sym (other n))
]

own_thread : (a : NamedHeap) (t u : ℕ) (th : Thread) → t < length a.threads → u ≡ t → thread_at (with_thread a t th) u ≡ th
own_thread a t u th h e = subst (λ (k : ℕ). thread_at (with_thread a t th) k ≡ th) (sym e) (thread_at-same a t th h)

CellsStand-ended : (a : NamedHeap) (t : ℕ) (v : CellsView) → t < length a.threads → CellsStand a v →
    CellsStand (with_thread a t (ended_thread (thread_at a t))) (with_cleared v t)
CellsStand-ended a t v ht s =
    let th : Thread = ended_thread (thread_at a t) in
    let stack_room : 16 * t + 16 ≤ length v.stack = omega (arith, s.stack_length) in
    let exact_room : 16 * t + 16 ≤ length v.exact = omega (arith, s.exact_length) in
    let raws_room : 8 * t + 8 ≤ length v.raws = omega (arith, s.raws_length) in
    record {
      stack_length = cleared_length 16 v.stack t stack_room ∙ s.stack_length ∙ ap (λ n. 16 * n) (sym (length-set a.threads t th));
      exact_length = cleared_length 16 v.exact t exact_room ∙ s.exact_length ∙ ap (λ n. 16 * n) (sym (length-set a.threads t th));
      raws_length = cleared_length 8 v.raws t raws_room ∙ s.raws_length ∙ ap (λ n. 8 * n) (sym (length-set a.threads t th));
      shared_length = s.shared_length;
      stack = λ u i hu hi. (
          let lu : u < length a.threads = subst (λ (n : ℕ). u < n) (length-set a.threads t th) hu in
          cleared_stands a.objects v.stack (thread_at a u).stack (thread_at (with_thread a t th) u).stack t u i stack_room hi
          (λ e. ap (λ (x : Thread). x.stack) (own_thread a t u th ht e)) (λ n. ap (λ (x : Thread). x.stack) (thread_at-other a t u th n)) (s.stack u i lu hi));
      exact = λ u i hu hi. (
          let lu : u < length a.threads = subst (λ (n : ℕ). u < n) (length-set a.threads t th) hu in
          cleared_stands a.objects v.exact (thread_at a u).exact (thread_at (with_thread a t th) u).exact t u i exact_room hi
          (λ e. ap (λ (x : Thread). x.exact) (own_thread a t u th ht e)) (λ n. ap (λ (x : Thread). x.exact) (thread_at-other a t u th n)) (s.exact u i lu hi));
      raws = λ u i hu hi. (
          let lu : u < length a.threads = subst (λ (n : ℕ). u < n) (length-set a.threads t th) hu in
          raws_cleared v.raws (thread_at a u).raws (thread_at (with_thread a t th) u).raws t u i raws_room hi
          (λ e. ap (λ (x : Thread). x.raws) (own_thread a t u th ht e)) (λ n. ap (λ (x : Thread). x.raws) (thread_at-other a t u th n)) (s.raws u i lu hi));
      shared = s.shared;
    }

-- ---- all that a World keeps

Holds-ended : (a : NamedHeap) (v : Parts) (t : ℕ) → t < length a.threads → Holds a v →
    Holds (with_thread a t (ended_thread (thread_at a t))) (record v { cells = with_cleared v.cells t; states = with_ended v.states t; pins = with_pins_cleared v.pins t })
Holds-ended a v t ht holds =
    let th : Thread = ended_thread (thread_at a t) in
    let state : ThreadState = record fresh_state { done = (get_or v.states t fresh_state).done; ended = true } in
    let same : state ≡ state_of th = ap (λ (x : ThreadState). record fresh_state { done = x.done; ended = true }) (state_read a v.states t fresh_state holds.states ht) in
    record {
      words = WordsStand-same a (with_thread a t th) v.words refl refl holds.words;
      pages = holds.pages;
      labels = LabelsStand-same a (with_thread a t th) v.labels refl refl holds.labels;
      cells = CellsStand-ended a t v.cells ht holds.cells;
      states = states_set a v.states t th state holds.states same;
      pins = pins_set a v.pins t th [] holds.pins refl;
      commits = holds.commits;
      stats = StatsStand-same a (with_thread a t th) v.stats refl refl refl holds.stats;
      counted = holds.counted;
      triggered = holds.triggered;
      finalizers = record { registered = holds.finalizers.registered; queue = holds.finalizers.queue };
    }

pub after_end_holds : (p : Program) (a : NamedHeap) (v : Parts) (t : ℕ) → t < length a.threads → Holds a v →
    Holds (after p a (Ended t)) (record v { cells = with_cleared v.cells t; states = with_ended v.states t; pins = with_pins_cleared v.pins t })
unfolding after
after_end_holds p a v t ht holds = Holds-ended a v t ht holds

pub end_next : (p : Program) (a : NamedHeap) (t : ℕ) → next p a t ≡ nexts.End → IsNext p a (Ended t)
unfolding IsNext
end_next p a t e = e

-- ---- agreement

pub end_others : (p : Program) (a : NamedHeap) (t : ℕ) (q : ParcelView) → q.owner ≢ t → Agrees a q → Agrees (after p a (Ended t)) q
unfolding after
end_others p a t q n agrees =
    Agrees-same a (with_thread a t (ended_thread (thread_at a t))) q refl (ap state_of (thread_at-other a t q.owner (ended_thread (thread_at a t)) n)) agrees

pub end_empty : (p : Program) (a : NamedHeap) (t : ℕ) → t < length a.threads → Agrees (after p a (Ended t)) (empty_parcel t)
unfolding after
end_empty p a t ht =
    let own : ended_thread (thread_at a t) ≡ thread_at (with_thread a t (ended_thread (thread_at a t))) t = sym (thread_at-same a t (ended_thread (thread_at a t)) ht) in
    record {
      cons = ap (λ (x : Thread). option_map (small_out a.pages) x.cons_page) own;
      boxed = ap (λ (x : Thread). option_map (small_out a.pages) x.boxed_page) own;
      unboxed = ap (λ (x : Thread). option_map (small_out a.pages) x.unboxed_page) own;
      run = ap (λ (x : Thread). option_map (run_out a.pages) x.open_run) own;
      run_type = ap (λ (x : Thread). run_type_of a.pages x.open_run) own;
    }
