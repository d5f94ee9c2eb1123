-- The heap with all regions closed, for which a World's fields stand before a pass.
use Rattle.std.proofs.Common.{◌≡◌, ℕ, ◌*◌, ◌/◌, ◌%◌, ◌<◌, ◌≤◌, List, [], ◌∷◌, ◌++◌, length, map, refl, sym, ◌∙◌, subst, ap, arith, get_or}
use Rattle.std.proofs.lemmas.List.{length-map, get_or-map, get_or_default, ext_get_or}
use Rattle.std.specs.Prelude.{All, flat_map}
use Rattle.heap_terms.specs.declared.cells.Value.{Value}
use Rattle.heap_terms.specs.declared.programs.Program.{Program}
use Rattle.heap_terms.specs.Collections.{closed, closed_thread}
use Rattle.heap_terms.specs.Heap.{NamedHeap, Thread, thread_at, ended_thread, fresh_thread, zero_value}
use Rattle.heap_terms.specs.Living.{AreLiving}
use Rattle.heap_terms.specs.Spelling.{word_of}
use Rattle.heap_terms.specs.WellFormed.{IsWellFormed, IsThread}
use Rattle.pass_laws.proofs.Collecting.{closed-well_formed}
use Rattle.trace_laws.specs.Rooted.{RootsStand, StandFor}
use Rattle.lisp_heap.specs.CellsView.{CellsView}
use Rattle.lisp_heap.specs.Parts.{Parts}
use Rattle.lisp_heap.specs.Rooting.{ambiguous_roots, exact_of, exact_roots, root_values, rooted}
use Rattle.lisp_heap.specs.Standing.{CellsStand, Holds, pins_of}
use Rattle.lisp_heap.specs.State.{state_closed, state_of}
use Rattle.lisp_heap.specs.declared.states.ThreadState.{ThreadState}
use Rattle.lisp_heap.proofs.AmbiguousRoots.{gathered_few, gathered_hits, raws_in, stack_of}
use Rattle.lisp_heap.proofs.ExactRoots.{exact_names, roots_living}
use Rattle.lisp_heap.proofs.FlatCells.{HaveEach, eighth, flat_words, sixteenth}
use Rattle.lisp_heap.proofs.Unchanged.{LabelsStand-same, StatsStand-same, WordsStand-same}

-- ---- what the fields stand for once all regions are closed

closed_at : (a : NamedHeap) (t : ℕ) → t < length a.threads → thread_at (closed a) t ≡ closed_thread (thread_at a t)
closed_at a t l = get_or-map closed_thread a.threads t (ended_thread fresh_thread) (ended_thread fresh_thread) l

CellsStand-closed : (a : NamedHeap) (v : CellsView) → CellsStand a v → CellsStand (closed a) v
CellsStand-closed a v s =
    let long = length-map a.threads closed_thread in
    record {
      stack_length = s.stack_length ∙ ap (λ (n : ℕ). 16 * n) (sym long);
      exact_length = s.exact_length ∙ ap (λ (n : ℕ). 16 * n) (sym long);
      raws_length = s.raws_length ∙ ap (λ (n : ℕ). 8 * n) (sym long);
      shared_length = s.shared_length;
      stack = λ t i lt li. (let l : t < length a.threads = omega (arith, lt, long) in
          s.stack t i l li ∙ ap (λ (th : Thread). word_of a.objects (get_or th.stack i zero_value)) (sym (closed_at a t l)));
      exact = λ t i lt li. (let l : t < length a.threads = omega (arith, lt, long) in
          s.exact t i l li ∙ ap (λ (th : Thread). word_of a.objects (get_or th.exact i zero_value)) (sym (closed_at a t l)));
      raws = λ t i lt li. (let l : t < length a.threads = omega (arith, lt, long) in
          s.raws t i l li ∙ ap (λ (th : Thread). get_or th.raws i 0) (sym (closed_at a t l)));
      shared = s.shared;
    }

closed_states : (ths : List Thread) → map state_closed (map state_of ths) ≡ map state_of (map closed_thread ths)
closed_states [] = refl
closed_states (th ∷ ths) = ap (λ (xs : List ThreadState). state_of (closed_thread th) ∷ xs) (closed_states ths)

closed_pins : (ths : List Thread) → map pins_of ths ≡ map pins_of (map closed_thread ths)
closed_pins [] = refl
closed_pins (th ∷ ths) = ap (λ (xs : List (List ℕ)). th.pins ∷ xs) (closed_pins ths)

pub Holds-closed : (a : NamedHeap) (v : Parts) → Holds a v → Holds (closed a) (record v { states = map state_closed v.states })
Holds-closed a v h = record {
  words = WordsStand-same a (closed a) v.words refl refl h.words;
  pages = h.pages;
  labels = LabelsStand-same a (closed a) v.labels refl refl h.labels;
  cells = CellsStand-closed a v.cells h.cells;
  states = ap (map state_closed) h.states ∙ closed_states a.threads;
  pins = h.pins ∙ closed_pins a.threads;
  commits = h.commits;
  stats = StatsStand-same a (closed a) v.stats refl refl refl h.stats;
  counted = h.counted;
  triggered = h.triggered;
  finalizers = record { registered = h.finalizers.registered; queue = h.finalizers.queue };
}

-- ---- what each thread of a well-formed heap has

module _ (p : Program) (b : NamedHeap) (wf : IsWellFormed p b) where
  each_thread : (P : Thread → Type 0) → ((th : Thread) → IsThread b.objects b.pages th → P th) → All P b.threads
  each_thread P from t d l =
      subst P (get_or_default b.threads t (ended_thread fresh_thread) d l) (from (thread_at b t) (wf.threads t (omega (arith, l, wf.threads_length))))

  pub stack_each : HaveEach 16 stack_of b.threads
  stack_each = each_thread (λ (th : Thread). length th.stack ≡ 16) (λ th h. h.stack_length)

  pub exact_each : HaveEach 16 exact_of b.threads
  exact_each = each_thread (λ (th : Thread). length th.exact ≡ 16) (λ th h. h.exact_length)

  raws_each : HaveEach 8 raws_in b.threads
  raws_each = each_thread (λ (th : Thread). length th.raws ≡ 8) (λ th h. h.raws_length)

  -- ---- the roots

  module _ (v : Parts) (h : Holds b v) where
    abbrev none : Thread
    none = ended_thread fresh_thread

    map_append : (f : Value → ℕ) (xs ys : List Value) → map f (xs ++ ys) ≡ map f xs ++ map f ys
    map_append f [] ys = refl
    map_append f (x ∷ xs) ys = ap (λ (zs : List ℕ). f x ∷ zs) (map_append f xs ys)

    map_same : (ws : List ℕ) → map (λ (w : ℕ). w) ws ≡ ws
    map_same [] = refl
    map_same (w ∷ ws) = ap (λ (xs : List ℕ). w ∷ xs) (map_same ws)

    stack_words : v.cells.stack ≡ map (word_of b.objects) (flat_map stack_of b.threads)
    stack_words = flat_words 16 stack_of (word_of b.objects) zero_value none (λ k. k / 16) (λ k. k % 16) b.threads v.cells.stack stack_each sixteenth h.cells.stack_length
        (λ t i lt li. h.cells.stack t i lt li)

    exact_words : v.cells.exact ≡ map (word_of b.objects) (flat_map exact_of b.threads)
    exact_words = flat_words 16 exact_of (word_of b.objects) zero_value none (λ k. k / 16) (λ k. k % 16) b.threads v.cells.exact exact_each sixteenth h.cells.exact_length
        (λ t i lt li. h.cells.exact t i lt li)

    raws_words : v.cells.raws ≡ flat_map raws_in b.threads
    raws_words = flat_words 8 raws_in (λ (w : ℕ). w) 0 none (λ k. k / 8) (λ k. k % 8) b.threads v.cells.raws raws_each eighth h.cells.raws_length
        (λ t i lt li. h.cells.raws t i lt li) ∙ map_same (flat_map raws_in b.threads)

    shared_words : v.cells.shared ≡ map (word_of b.objects) b.shared
    shared_words = ext_get_or 0 v.cells.shared (map (word_of b.objects) b.shared) (h.cells.shared_length ∙ sym wf.shared_length ∙ sym (length-map b.shared (word_of b.objects)))
        (λ i l. (let inside : i < length b.shared = omega (arith, l, h.cells.shared_length, wf.shared_length) in
        h.cells.shared i (omega (arith, l, h.cells.shared_length)) ∙ sym (get_or-map (word_of b.objects) b.shared i zero_value 0 inside)))

    pub exact_are : exact_roots v.cells ≡ map (word_of b.objects) (root_values b)
    exact_are = ap (λ (ws : List ℕ). ws ++ v.cells.shared) exact_words ∙ ap (λ (ws : List ℕ). map (word_of b.objects) (flat_map exact_of b.threads) ++ ws) shared_words
        ∙ sym (map_append (word_of b.objects) (flat_map exact_of b.threads) b.shared)

    pub roots_stand : RootsStand (rooted b) (exact_roots v.cells) (ambiguous_roots v.cells v.pins)
    roots_stand = record {
      exact_are = exact_are;
      living = roots_living b (each_thread (λ (th : Thread). AreLiving b.objects th.exact) (λ th h. h.exact)) wf.shared;
      exact_names = λ name. exact_names b name;
      hits = λ word large. gathered_hits b v.cells v.pins stack_words raws_words h.pins word large;
    }

    pub stand : StandFor (rooted b) v.words v.pages (exact_roots v.cells) (ambiguous_roots v.cells v.pins)
    stand = record { sound = wf.sound; words_stand = h.words; pages_are = h.pages; roots = roots_stand }

    pub few_ambiguous : length (ambiguous_roots v.cells v.pins) ≤ 56 * length p.threads
    few_ambiguous =
        let few = gathered_few b v.cells v.pins h.cells.stack_length h.cells.raws_length h.pins (each_thread (λ (th : Thread). length th.pins ≤ 32) (λ th h. h.pins_most)) in
        omega (arith, few, wf.threads_length)

pub closed_wf : (p : Program) (a : NamedHeap) → IsWellFormed p a → IsWellFormed p (closed a)
closed_wf p a wf = closed-well_formed p a wf
