-- A command that allocates nothing: after its one write all stands for the heap after it.
use Rattle.std.proofs.Common.{◌≡◌, ℕ, ◌+◌, ◌<◌, List, [], ◌∷◌, ◌++◌, length, refl, sym, ◌∙◌, subst, ap, arith, get_or, set, length-set, Some}
use Rattle.std.proofs.Math.Seq.{map-set_same}
use Rattle.heap_terms.specs.declared.cells.Value.{Value}
use Rattle.heap_terms.specs.declared.cells.Value.TheVariants.{Ref}
use Rattle.heap_terms.specs.declared.programs.Program.{Program}
use Rattle.heap_terms.specs.Cells.{with_cell}
use Rattle.heap_terms.specs.Generations.{allocated}
use Rattle.heap_terms.specs.Heap.{NamedHeap, Thread, thread_at, with_thread, zero_value}
use Rattle.heap_terms.specs.Outcomes.PinCommands.{with_pins}
use Rattle.heap_terms.specs.RawCells.{with_raw}
use Rattle.heap_terms.specs.Stands.{WordsStand}
use Rattle.heap_terms.specs.WellFormed.{IsWellFormed}
use Rattle.heap_terms.specs.Spelling.{word_of}
use Rattle.finalizers.specs.Lists.{Lists}
use Rattle.finalizers.specs.Standing.{FinalizersStand}
use Rattle.generation_policy.specs.Numbers.{StatsStand}
use Rattle.generation_policy.specs.declared.stats.GenStats.{GenStats}
use Rattle.lisp_heap.specs.CellsView.{CellsView}
use Rattle.lisp_heap.specs.Plan.{Makes, cells_after, pins_after, states_after, words_after}
use Rattle.lisp_heap.specs.PinsView.{but_last}
use Rattle.lisp_heap.specs.Parts.{Parts}
use Rattle.lisp_heap.specs.Standing.{Holds, CellsStand, LabelsStand}
use Rattle.lisp_heap.specs.State.{state_of, fresh_state}
use Rattle.lisp_heap.specs.declared.plan.Change.{Change}
use Rattle.lisp_heap.specs.declared.plan.Change.TheVariants as changes
use Rattle.lisp_heap.specs.declared.states.ThreadState.{ThreadState}
use Rattle.lisp_heap.proofs.CellLemmas.{CellsStand-with_thread, CellsStand-with_cell, CellsStand-with_raw, CellsStand-objects}
use Rattle.lisp_heap.proofs.FinalizersKept.{FinalizersStand-same, FinalizersStand-words}
use Rattle.lisp_heap.proofs.ObjectLemmas.{word_of-replaced}
use Rattle.lisp_heap.proofs.PutLemmas.{WordsStand-slot, LabelsStand-slot}
use Rattle.lisp_heap.proofs.Unchanged.{WordsStand-same, LabelsStand-same, StatsStand-same, with_cell-numbers, with_cell-objects, with_cell-pages, with_cell-states, with_cell-pins, with_raw-states, with_raw-pins, with_thread-pins, state_read, states_set, pins_read, pins_set}

-- what the parts are after a change
abbrev pub parts_after : Parts → ℕ → Change → Parts
parts_after v t change = record v {
  words = words_after v.words change;
  cells = cells_after v.cells t change;
  states = states_after v.states t change;
  pins = pins_after v.pins t change;
}

-- a thread changes in nothing but what its state says
pub Holds-thread : (a : NamedHeap) (v : Parts) (t : ℕ) (th : Thread) (state : ThreadState) → th.stack ≡ (thread_at a t).stack →
    th.exact ≡ (thread_at a t).exact → th.raws ≡ (thread_at a t).raws → th.pins ≡ (thread_at a t).pins → state ≡ state_of th → Holds a v →
    Holds (with_thread a t th) (record v { states = set v.states t state })
Holds-thread a v t th state stack exact raws pins same holds = record {
  words = WordsStand-same a (with_thread a t th) v.words refl refl holds.words;
  pages = holds.pages;
  labels = LabelsStand-same a (with_thread a t th) v.labels refl refl holds.labels;
  cells = CellsStand-with_thread a t th v.cells stack exact raws holds.cells;
  states = states_set a v.states t th state holds.states same;
  pins = holds.pins ∙ sym (with_thread-pins a t th pins);
  commits = holds.commits;
  stats = StatsStand-same a (with_thread a t th) v.stats refl refl refl holds.stats;
  counted = holds.counted;
  triggered = holds.triggered;
  finalizers = record { registered = holds.finalizers.registered; queue = holds.finalizers.queue };
}

-- a thread changes in nothing but its pins
Holds-pins : (a : NamedHeap) (v : Parts) (t : ℕ) (pins words : List ℕ) → words ≡ pins → Holds a v →
    Holds (with_pins a t pins) (record v { pins = set v.pins t words })
Holds-pins a v t pins words same holds =
    let th : Thread = record (thread_at a t) { pins = pins } in
    record {
      words = WordsStand-same a (with_thread a t th) v.words refl refl holds.words;
      pages = holds.pages;
      labels = LabelsStand-same a (with_thread a t th) v.labels refl refl holds.labels;
      cells = CellsStand-with_thread a t th v.cells refl refl refl holds.cells;
      states = holds.states ∙ sym (map-set_same state_of a.threads t th _ refl);
      pins = pins_set a v.pins t th words holds.pins same;
      commits = holds.commits;
      stats = StatsStand-same a (with_thread a t th) v.stats refl refl refl holds.stats;
      counted = holds.counted;
      triggered = holds.triggered;
      finalizers = record { registered = holds.finalizers.registered; queue = holds.finalizers.queue };
    }

-- the change makes the parts stand for the new heap
pub Holds-change : (p : Program) (a new : NamedHeap) (v : Parts) (t : ℕ) (change : Change) → IsWellFormed p a → IsWellFormed p new →
    t < length p.threads → ((g : ℕ) → allocated new g ≡ allocated a g) → Holds a v → Makes a t new change → Holds new (parts_after v t change)
Holds-change p a new v t changes.Nothing wf wf_new ht same_words holds same = subst (λ (b : NamedHeap). Holds b v) (sym same) holds
Holds-change p a new v t (changes.InCell cell word) wf wf_new ht same_words holds makes =
    let th = wf.threads t ht in
    let lt : t < length a.threads = omega (arith, wf.threads_length) in
    let numbers = with_cell-numbers a t cell makes.value in
    subst (λ (b : NamedHeap). Holds b (parts_after v t (changes.InCell cell word))) (sym makes.effect) (record {
      words = WordsStand-same a (with_cell a t cell makes.value) v.words (with_cell-objects a t cell makes.value) (with_cell-pages a t cell makes.value) holds.words;
      pages = holds.pages ∙ sym (with_cell-pages a t cell makes.value);
      labels = LabelsStand-same a (with_cell a t cell makes.value) v.labels (with_cell-objects a t cell makes.value) (with_cell-pages a t cell makes.value) holds.labels;
      cells = CellsStand-with_cell a t cell makes.value word v.cells makes.is_cell lt th.stack_length th.exact_length wf.shared_length makes.word_is holds.cells;
      states = holds.states ∙ sym (with_cell-states a t cell makes.value);
      pins = holds.pins ∙ sym (with_cell-pins a t cell makes.value);
      commits = holds.commits ∙ ap length (sym (with_cell-objects a t cell makes.value));
      stats = StatsStand-same a (with_cell a t cell makes.value) v.stats (with_cell-objects a t cell makes.value) numbers.cum numbers.num holds.stats;
      counted = holds.counted ∙ sym numbers.counted;
      triggered = holds.triggered ∙ sym numbers.triggered;
      finalizers = FinalizersStand-same a (with_cell a t cell makes.value) v.finalizers (with_cell-objects a t cell makes.value) numbers.finalizers numbers.queue holds.finalizers;
    })
Holds-change p a new v t (changes.InRaw r word) wf wf_new ht same_words holds makes =
    let lt : t < length a.threads = omega (arith, wf.threads_length) in
    let th : Thread = record (thread_at a t) { raws = set (thread_at a t).raws r.0 word } in
    subst (λ (b : NamedHeap). Holds b (parts_after v t (changes.InRaw r word))) (sym makes.effect) (record {
      words = WordsStand-same a (with_raw a t r word) v.words refl refl holds.words;
      pages = holds.pages;
      labels = LabelsStand-same a (with_raw a t r word) v.labels refl refl holds.labels;
      cells = CellsStand-with_raw a t r word v.cells makes.is_raw lt (wf.threads t ht).raws_length holds.cells;
      states = holds.states ∙ sym (with_raw-states a t r word);
      pins = holds.pins ∙ sym (with_raw-pins a t r word);
      commits = holds.commits;
      stats = StatsStand-same a (with_raw a t r word) v.stats refl refl refl holds.stats;
      counted = holds.counted;
      triggered = holds.triggered;
      finalizers = record { registered = holds.finalizers.registered; queue = holds.finalizers.queue };
    })
Holds-change p a new v t (changes.InSpace index word) wf wf_new ht same_words holds makes =
    let new_objects = set a.objects makes.name (Some (record makes.object { contents = makes.contents })) in
    let b : NamedHeap = record a { objects = new_objects } in
    let same : (u : Value) → word_of new_objects u ≡ word_of a.objects u = λ u. word_of-replaced a.objects makes.name makes.object makes.contents u makes.there makes.kind in
    let written : WordsStand b (set v.words (makes.object.place + makes.i) word) =
    WordsStand-slot a v.words makes.name makes.i makes.object makes.contents makes.slot word wf.sound holds.words makes.there makes.kind makes.payload makes.within makes.slots_are makes.word_is in
    let words_now : WordsStand b (set v.words index word) = subst (λ (k : ℕ). WordsStand b (set v.words k word)) (sym makes.at_index) written in
    subst (λ (k : NamedHeap). Holds k (parts_after v t (changes.InSpace index word))) (sym makes.effect) (record {
      words = words_now;
      pages = holds.pages;
      labels = LabelsStand-slot a v.words makes.name makes.i makes.object makes.contents makes.slot word wf.sound holds.words makes.there makes.kind makes.payload makes.within makes.slots_are makes.word_is v.labels holds.labels;
      cells = CellsStand-objects a new_objects v.cells (record {
        stack = λ u i hu hi. same (get_or (thread_at a u).stack i zero_value);
        exact = λ u i hu hi. same (get_or (thread_at a u).exact i zero_value);
        shared = λ i hi. same (get_or a.shared i zero_value);
      }) holds.cells;
      states = holds.states;
      pins = holds.pins;
      commits = holds.commits ∙ sym (length-set a.objects makes.name (Some (record makes.object { contents = makes.contents })));
      stats = record {
        allocated_is = λ g low. holds.stats.allocated_is g low ∙ sym (same_words g) ∙ ap (λ (k : NamedHeap). allocated k g) makes.effect;
        cum_is = holds.stats.cum_is;
        num_is = holds.stats.num_is;
      };
      counted = holds.counted;
      triggered = holds.triggered;
      finalizers = FinalizersStand-words a b v.finalizers wf.sound.finalizers (λ name there. same (Ref name)) refl refl holds.finalizers;
    })
Holds-change p a new v t (changes.Inhibits count) wf wf_new ht same_words holds makes =
    let lt : t < length a.threads = omega (arith, wf.threads_length) in
    let th : Thread = record (thread_at a t) { inhibits = count } in
    let state : ThreadState = record (get_or v.states t fresh_state) { inhibits = count } in
    let same : state ≡ state_of th = ap (λ (x : ThreadState). record x { inhibits = count }) (state_read a v.states t fresh_state holds.states lt) in
    subst (λ (b : NamedHeap). Holds b (parts_after v t (changes.Inhibits count))) (sym makes) (Holds-thread a v t th state refl refl refl refl same holds)
Holds-change p a new v t (changes.Owes last) wf wf_new ht same_words holds makes =
    let lt : t < length a.threads = omega (arith, wf.threads_length) in
    let th : Thread = record (thread_at a t) { owed = Some last } in
    let state : ThreadState = record (get_or v.states t fresh_state) { owed = Some last } in
    let same : state ≡ state_of th = ap (λ (x : ThreadState). record x { owed = Some last }) (state_read a v.states t fresh_state holds.states lt) in
    subst (λ (b : NamedHeap). Holds b (parts_after v t (changes.Owes last))) (sym makes) (Holds-thread a v t th state refl refl refl refl same holds)
Holds-change p a new v t (changes.PushPin word) wf wf_new ht same_words holds makes =
    let lt : t < length a.threads = omega (arith, wf.threads_length) in
    let pins : List ℕ = (thread_at a t).pins ++ word ∷ [] in
    subst (λ (b : NamedHeap). Holds b (parts_after v t (changes.PushPin word))) (sym makes.effect)
    (Holds-pins a v t pins (get_or v.pins t [] ++ word ∷ []) (ap (λ (ws : List ℕ). ws ++ word ∷ []) (pins_read a v.pins t [] holds.pins lt)) holds)
Holds-change p a new v t changes.PopPin wf wf_new ht same_words holds makes =
    let lt : t < length a.threads = omega (arith, wf.threads_length) in
    subst (λ (b : NamedHeap). Holds b (parts_after v t changes.PopPin)) (sym makes)
    (Holds-pins a v t (but_last (thread_at a t).pins) (but_last (get_or v.pins t [])) (ap but_last (pins_read a v.pins t [] holds.pins lt)) holds)

-- parts that are the same stand for the same heap
pub Holds-same : (a : NamedHeap) (v w : Parts) → w.words ≡ v.words → w.pages ≡ v.pages → w.labels ≡ v.labels → w.cells ≡ v.cells →
    w.states ≡ v.states → w.pins ≡ v.pins → w.commits ≡ v.commits → w.stats ≡ v.stats → w.counted ≡ v.counted → w.triggered ≡ v.triggered → w.finalizers ≡ v.finalizers → Holds a v → Holds a w
Holds-same a v w words pages labels cells states pins commits stats counted triggered finalizers h = record {
  words = subst (λ (x : List ℕ). WordsStand a x) (sym words) h.words;
  pages = pages ∙ h.pages;
  labels = subst (λ (x : List ℕ). LabelsStand a x) (sym labels) h.labels;
  cells = subst (λ (x : CellsView). CellsStand a x) (sym cells) h.cells;
  states = states ∙ h.states;
  pins = pins ∙ h.pins;
  commits = commits ∙ h.commits;
  stats = subst (λ (x : GenStats). StatsStand a x) (sym stats) h.stats;
  counted = counted ∙ h.counted;
  triggered = triggered ∙ h.triggered;
  finalizers = subst (λ (x : Lists). FinalizersStand a x) (sym finalizers) h.finalizers;
}
