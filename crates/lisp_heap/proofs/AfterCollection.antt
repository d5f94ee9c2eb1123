-- What a World's fields stand for after a collection.
use Rattle.std.proofs.Common.{◌≡◌, ℕ, ◌+◌, ◌*◌, ◌<◌, ◌≤◌, List, [], ◌∷◌, length, map, refl, sym, ◌∙◌, ap, arith, get_or, option_map, None, inl, inr}
use Rattle.std.proofs.lemmas.Bool.{cases_eq}
use Rattle.std.proofs.lemmas.List.{length-append, length-drop, length-map, length-take-le, get_or-map, get_or-take, get_or-drop, get_or_append_left, get_or-append-add}
use Rattle.std.specs.Prelude.{flat_map}
use Rattle.heap_terms.specs.declared.cells.Value.{Value}
use Rattle.heap_terms.specs.declared.events.Event.TheVariants.{Collected}
use Rattle.heap_terms.specs.declared.events.PassRecord.{PassRecord}
use Rattle.heap_terms.specs.declared.pages.Entry.{Entry}
use Rattle.heap_terms.specs.declared.pages.Next.TheVariants as nexts
use Rattle.heap_terms.specs.declared.programs.Program.{Program}
use Rattle.heap_terms.specs.Collections.{ArePasses, IsPassOf, after_pass_of, after_passes, closed, closed_thread, collected}
use Rattle.heap_terms.specs.Heap.{NamedHeap, Thread, thread_at, zero_value}
use Rattle.heap_terms.specs.Histories.{IsNext, after, next}
use Rattle.heap_terms.specs.Passes.{after_pass}
use Rattle.heap_terms.specs.Policy.{is_raised, target_of}
use Rattle.heap_terms.specs.Spelling.{word_of}
use Rattle.heap_terms.specs.WellFormed.{IsWellFormed}
use Rattle.heap_laws.proofs.EventSteps.{collected_threads}
use Rattle.finalizers.specs.Lists.{Lists}
use Rattle.finalizers.specs.Standing.{FinalizersStand}
use Rattle.generation_policy.specs.declared.stats.GenStats.{GenStats}
use Rattle.generation_policy.specs.Numbers.{StatsStand}
use Rattle.pass_laws.proofs.Collecting.{closed_none, is_continued-low, pass_of-well_formed}
use Rattle.pass_laws.specs.NoRegions.{HasNoRegions}
use Rattle.trace_laws.specs.Rooted.{StandFor}
use Rattle.lisp_heap.specs.Agreement.{Agrees, run_out, run_type_of, small_out}
use Rattle.lisp_heap.specs.CellsView.{CellsView, spot, with_exact_words}
use Rattle.lisp_heap.specs.ParcelView.{empty_parcel}
use Rattle.lisp_heap.specs.Parts.{Parts}
use Rattle.lisp_heap.specs.Rooting.{ambiguous_roots, exact_of, root_values}
use Rattle.lisp_heap.specs.Standing.{CellsStand, Holds, LabelsStand, pins_of}
use Rattle.lisp_heap.specs.State.{fresh_state, state_closed, state_of, with_owed}
use Rattle.lisp_heap.specs.declared.states.ThreadState.{ThreadState}
use Rattle.lisp_heap.proofs.Closing.{Holds-closed, closed_wf, exact_each}
use Rattle.lisp_heap.proofs.FlatCells.{HaveEach, flat_at, flat_long}
use Rattle.lisp_heap.proofs.PerformLemmas.{Holds-thread}
use Rattle.lisp_heap.proofs.Pinned.{ambiguous_stays, stack_word}
use Rattle.lisp_heap.proofs.Unchanged.{state_read}

-- ---- the cells

-- the exact cells written anew, and the words of the cells s as before
module _ (b c : NamedHeap) (v : CellsView) (exact : List ℕ) (threads : c.threads ≡ b.threads) (shared : c.shared ≡ b.shared) (s : CellsStand b v)
    (each : HaveEach 16 exact_of b.threads) (shared_long : length b.shared ≡ 16) (exact_is : exact ≡ map (word_of c.objects) (root_values b))
    (stays : (t i : ℕ) → t < length b.threads → i < 16 → word_of c.objects (get_or (thread_at b t).stack i zero_value) ≡ word_of b.objects (get_or (thread_at b t).stack i zero_value)) where
  all_long : length (flat_map exact_of b.threads) ≡ 16 * length b.threads
  all_long = flat_long 16 exact_of b.threads each

  roots_long : length (root_values b) ≡ 16 * length b.threads + 16
  roots_long = omega (arith, length-append (flat_map exact_of b.threads) b.shared, all_long, shared_long)

  exact_long : length exact ≡ 16 * length b.threads + 16
  exact_long = ap length exact_is ∙ length-map (root_values b) (word_of c.objects) ∙ roots_long

  at : (u : ℕ) → thread_at c u ≡ thread_at b u
  at u = ap (λ (ths : List Thread). thread_at (record b { threads = ths }) u) threads

  read : (k : ℕ) → k < length (root_values b) → get_or exact k 0 ≡ word_of c.objects (get_or (root_values b) k zero_value)
  read k l = ap (λ (ws : List ℕ). get_or ws k 0) exact_is ∙ get_or-map (word_of c.objects) (root_values b) k zero_value 0 l

  own_cell : (t i : ℕ) → t < length b.threads → i < 16 → get_or exact (16 * t + i) 0 ≡ word_of c.objects (get_or (thread_at b t).exact i zero_value)
  own_cell t i lt li =
      let inside : 16 * t + i < length (flat_map exact_of b.threads) = omega (arith, all_long, lt, li) in
      read (16 * t + i) (omega (arith, inside, all_long, roots_long))
      ∙ ap (word_of c.objects) (get_or_append_left (flat_map exact_of b.threads) b.shared zero_value (16 * t + i) inside ∙ flat_at 16 exact_of b.threads t i _ zero_value each lt li)

  shared_cell : (i : ℕ) → i < 16 → get_or exact (length v.exact + i) 0 ≡ word_of c.objects (get_or b.shared i zero_value)
  shared_cell i li =
      let front : length v.exact ≡ length (flat_map exact_of b.threads) = s.exact_length ∙ sym all_long in
      ap (λ (n : ℕ). get_or exact (n + i) 0) front
      ∙ read (length (flat_map exact_of b.threads) + i) (omega (arith, roots_long, all_long, li))
      ∙ ap (word_of c.objects) (get_or-append-add (flat_map exact_of b.threads) b.shared i zero_value)

  pub CellsStand-rewritten : CellsStand c (with_exact_words v exact)
  CellsStand-rewritten =
      let count : length c.threads ≡ length b.threads = ap (λ (ths : List Thread). length ths) threads in
      record {
        stack_length = s.stack_length ∙ ap (λ (n : ℕ). 16 * n) (sym count);
        exact_length = length-take-le (length v.exact) exact (omega (arith, s.exact_length, exact_long)) ∙ s.exact_length ∙ ap (λ (n : ℕ). 16 * n) (sym count);
        raws_length = s.raws_length ∙ ap (λ (n : ℕ). 8 * n) (sym count);
        shared_length = omega (arith, length-drop (length v.exact) exact, exact_long, s.exact_length);
        stack = λ t i lt li. (let l : t < length b.threads = omega (arith, lt, count) in
            s.stack t i l li ∙ sym (stays t i l li) ∙ ap (λ (th : Thread). word_of c.objects (get_or th.stack i zero_value)) (sym (at t)));
        exact = λ t i lt li. (let l : t < length b.threads = omega (arith, lt, count) in
            get_or-take (length v.exact) exact (spot t i) 0 (omega (arith, s.exact_length, l, li)) ∙ own_cell t i l li
            ∙ ap (λ (th : Thread). word_of c.objects (get_or th.exact i zero_value)) (sym (at t)));
        raws = λ t i lt li. (let l : t < length b.threads = omega (arith, lt, count) in
            s.raws t i l li ∙ ap (λ (th : Thread). get_or th.raws i 0) (sym (at t)));
        shared = λ i li. get_or-drop (length v.exact) exact i 0 ∙ shared_cell i li ∙ ap (λ (vs : List Value). word_of c.objects (get_or vs i zero_value)) (sym shared);
      }

-- ---- a pass leaves the threads and the cells g

after_pass-threads : (b : NamedHeap) (r : PassRecord) → (after_pass b r).threads ≡ b.threads
unfolding after_pass
after_pass-threads b r = refl

after_pass-shared : (b : NamedHeap) (r : PassRecord) → (after_pass b r).shared ≡ b.shared
unfolding after_pass
after_pass-shared b r = refl

-- and so do all passes, and what `auto` counts
passes-threads : (b : NamedHeap) (last g : ℕ) (records : List PassRecord) → (after_passes b last g records).threads ≡ b.threads
passes-threads b last g [] = refl
passes-threads b last g (r ∷ rest) = passes-threads (after_pass_of b last g r) last (g + 1) rest ∙ after_pass-threads b r

passes-shared : (b : NamedHeap) (last g : ℕ) (records : List PassRecord) → (after_passes b last g records).shared ≡ b.shared
passes-shared b last g [] = refl
passes-shared b last g (r ∷ rest) = passes-shared (after_pass_of b last g r) last (g + 1) rest ∙ after_pass-shared b r

after_pass-counted : (b : NamedHeap) (r : PassRecord) → (after_pass b r).counted ≡ b.counted
unfolding after_pass
after_pass-counted b r = refl

after_pass-triggered : (b : NamedHeap) (r : PassRecord) → (after_pass b r).triggered ≡ b.triggered
unfolding after_pass
after_pass-triggered b r = refl

passes-counted : (b : NamedHeap) (last g : ℕ) (records : List PassRecord) → (after_passes b last g records).counted ≡ b.counted
passes-counted b last g [] = refl
passes-counted b last g (r ∷ rest) = passes-counted (after_pass_of b last g r) last (g + 1) rest ∙ after_pass-counted b r

passes-triggered : (b : NamedHeap) (last g : ℕ) (records : List PassRecord) → (after_passes b last g records).triggered ≡ b.triggered
passes-triggered b last g [] = refl
passes-triggered b last g (r ∷ rest) = passes-triggered (after_pass_of b last g r) last (g + 1) rest ∙ after_pass-triggered b r

-- ---- the words of the cells s

thread_after : (b : NamedHeap) (last g : ℕ) (r : PassRecord) (u : ℕ) → thread_at (after_pass_of b last g r) u ≡ thread_at b u
thread_after b last g r u = ap (λ (ths : List Thread). thread_at (record b { threads = ths }) u) (after_pass-threads b r)

module _ (p : Program) where
  one_stays : (b : NamedHeap) (last g : ℕ) (r : PassRecord) → IsWellFormed p b → IsPassOf b last g r → (u i : ℕ) → u < length b.threads → i < 16 →
      word_of (after_pass_of b last g r).objects (get_or (thread_at b u).stack i zero_value) ≡ word_of b.objects (get_or (thread_at b u).stack i zero_value)
  one_stays b last g r wf pass u i lu li =
      let th = wf.threads u (omega (arith, lu, wf.threads_length)) in
      ambiguous_stays b g (target_of g (is_raised b last g)) r wf.sound pass (get_or (thread_at b u).stack i zero_value) (th.stack i)
      (stack_word b u i lu (omega (arith, th.stack_length, li)))

  stack_stays : (b : NamedHeap) (last g : ℕ) (records : List PassRecord) → g ≤ 5 → IsWellFormed p b → HasNoRegions b → ArePasses b last g records → (u i : ℕ) → u < length b.threads → i < 16 →
      word_of (after_passes b last g records).objects (get_or (thread_at b u).stack i zero_value) ≡ word_of b.objects (get_or (thread_at b u).stack i zero_value)
  stack_stays b last g [] low wf none are u i lu li = absurd are
  stack_stays b last g (r ∷ []) low wf none are u i lu li = one_stays b last g r wf are.0 u i lu li
  stack_stays b last g (r ∷ s ∷ rest) low wf none are u i lu li =
      let c = after_pass_of b last g r in
      let first = pass_of-well_formed p b last g r low wf none are.0 in
      let more = is_continued-low c last g (is_raised b last g) are.1 in
      let count : length c.threads ≡ length b.threads = ap (λ (ths : List Thread). length ths) (after_pass-threads b r) in
      let rest_stays = stack_stays c last (g + 1) (s ∷ rest) (omega (arith, more)) first.0 first.1 are.2 u i (omega (arith, lu, count)) li in
      let same : get_or (thread_at c u).stack i zero_value ≡ get_or (thread_at b u).stack i zero_value = ap (λ (th : Thread). get_or th.stack i zero_value) (thread_after b last g r u) in
      ap (word_of (after_passes b last g (r ∷ s ∷ rest)).objects) (sym same) ∙ rest_stays ∙ ap (word_of c.objects) same ∙ one_stays b last g r wf are.0 u i lu li

pub collected_next : (p : Program) (a : NamedHeap) (t last : ℕ) (records : List PassRecord) → next p a t ≡ nexts.Collect last → ((u : ℕ) → (thread_at a u).inhibits ≡ 0) →
    ArePasses (closed a) last 0 records → IsNext p a (Collected t last records)
unfolding IsNext
collected_next p a t last records collects allowed are = (collects, record { allowed = allowed; passes = are })

-- ---- all that a World keeps

module _ (p : Program) (a : NamedHeap) (v : Parts) (wf : IsWellFormed p a) (h : Holds a v) (t last : ℕ) (records : List PassRecord) (lt : t < length p.threads)
    (are : ArePasses (closed a) last 0 records) (words : List ℕ) (pages : List Entry) (labels exact : List ℕ) (stats : GenStats)
    (stands : StandFor (record { heap = after_passes (closed a) last 0 records; values = root_values (closed a) }) words pages exact (ambiguous_roots v.cells v.pins))
    (named : LabelsStand (after_passes (closed a) last 0 records) labels) (numbers : StatsStand (after_passes (closed a) last 0 records) stats)
    (long : length (after_passes (closed a) last 0 records).objects ≡ length (closed a).objects) (lists : Lists)
    (listed : FinalizersStand (after_passes (closed a) last 0 records) lists) where
  abbrev b : NamedHeap
  b = closed a

  abbrev c : NamedHeap
  c = after_passes (closed a) last 0 records

  holds_b : Holds (closed a) (record v { states = map state_closed v.states })
  holds_b = Holds-closed a v h

  wf_b : IsWellFormed p (closed a)
  wf_b = closed_wf p a wf

  abbrev passed : Parts
  passed = record {
    words = words;
    pages = pages;
    labels = labels;
    cells = with_exact_words v.cells exact;
    states = map state_closed v.states;
    pins = v.pins;
    commits = v.commits;
    stats = stats;
    counted = v.counted;
    triggered = v.triggered;
    finalizers = lists;
  }

  cells_passed : CellsStand c (with_exact_words v.cells exact)
  cells_passed = CellsStand-rewritten b c v.cells exact (passes-threads b last 0 records) (passes-shared b last 0 records) holds_b.cells (exact_each p b wf_b) wf_b.shared_length
      stands.roots.exact_are (stack_stays p b last 0 records (omega arith) wf_b (closed_none a) are)

  holds_passed : Holds c passed
  holds_passed = record {
    words = stands.words_stand;
    pages = stands.pages_are;
    labels = named;
    cells = cells_passed;
    states = holds_b.states ∙ ap (λ (ths : List Thread). map state_of ths) (sym (passes-threads b last 0 records));
    pins = holds_b.pins ∙ ap (λ (ths : List Thread). map pins_of ths) (sym (passes-threads b last 0 records));
    commits = holds_b.commits ∙ sym long;
    stats = numbers;
    counted = holds_b.counted ∙ sym (passes-counted b last 0 records);
    triggered = holds_b.triggered ∙ sym (passes-triggered b last 0 records);
    finalizers = listed;
  }

  -- the fields after the collection
  abbrev pub parts_then : Parts
  parts_then = record passed { states = with_owed (map state_closed v.states) t None }

  pub collected_holds : Holds (after p a (Collected t last records)) parts_then
  unfolding after collected
  collected_holds =
      let count : length c.threads ≡ length a.threads = ap (λ (ths : List Thread). length ths) (passes-threads b last 0 records) ∙ length-map a.threads closed_thread in
      let below : t < length c.threads = omega (arith, count, wf.threads_length, lt) in
      let th : Thread = record (thread_at c t) { owed = None } in
      let state : ThreadState = record (get_or passed.states t fresh_state) { owed = None } in
      let same : state ≡ state_of th = ap (λ (x : ThreadState). record x { owed = None }) (state_read c passed.states t fresh_state holds_passed.states below) in
      Holds-thread c passed t th state refl refl refl refl same holds_passed

-- ---- agreement

-- a thread whose regions were closed
closed_agrees : (c : NamedHeap) (u : ℕ) (th : Thread) → thread_at c u ≡ closed_thread th → Agrees c (empty_parcel u)
closed_agrees c u th is = record {
  cons = ap (λ (x : Thread). option_map (small_out c.pages) x.cons_page) (sym is);
  boxed = ap (λ (x : Thread). option_map (small_out c.pages) x.boxed_page) (sym is);
  unboxed = ap (λ (x : Thread). option_map (small_out c.pages) x.unboxed_page) (sym is);
  run = ap (λ (x : Thread). option_map (run_out c.pages) x.open_run) (sym is);
  run_type = ap (λ (x : Thread). run_type_of c.pages x.open_run) (sym is);
}

quit : (th : Thread) → record (closed_thread th) { owed = None } ≡ closed_thread (record th { owed = None })
quit th = refl

pub collected_agrees : (p : Program) (a : NamedHeap) (t last : ℕ) (records : List PassRecord) (u : ℕ) → t < length a.threads →
    Agrees (after p a (Collected t last records)) (empty_parcel u)
unfolding after
collected_agrees p a t last records u lt =
    let now = collected_threads a t last records in
    elim (cases_eq u t) [
      | inl same ↦ closed_agrees (collected a t last records) u (record (thread_at a t) { owed = None })
          (ap (λ (k : ℕ). thread_at (collected a t last records) k) same ∙ now.own lt)
      | inr other ↦ closed_agrees (collected a t last records) u (thread_at a u) (now.others u other)
    ]
