-- What a World keeps before its first event stands for the heap at the start.
use Rattle.std.proofs.Common.{◌≡◌, ℕ, ◌*◌, ◌<◌, List, [], ◌∷◌, length, map, replicate, refl, sym, ◌∙◌, subst, ap, arith, get_or, Option, None, Some}
use Rattle.std.proofs.lemmas.List.{length-replicate, length-map, get_or-replicate}
use Rattle.heap_terms.specs.declared.commands.Command.{Command}
use Rattle.heap_terms.specs.declared.events.Event.{Event}
use Rattle.heap_terms.specs.declared.pages.Entry.TheVariants.{Free}
use Rattle.heap_terms.specs.declared.programs.Program.{Program}
use Rattle.heap_terms.specs.Heap.{Thread, start, fresh_thread, zero_value}
use Rattle.heap_terms.specs.Histories.{Lawful, replay}
use Rattle.heap_terms.specs.Layout.{page_words}
use Rattle.heap_terms.specs.Objects.{Object}
use Rattle.heap_terms.specs.Stands.{WordsStand}
use Rattle.heap_terms.specs.Valid.{IsValid}
use Rattle.heap_terms.specs.Spelling.{word_of}
use Rattle.heap_laws.proofs.SoundHeaps.{start_thread_is, start_free}
use Rattle.finalizers.specs.Standing.{FinalizersStand}
use Rattle.generation_policy.specs.Numbers.{StatsStand, fresh_stats}
use Rattle.lisp_heap.specs.CellsView.{spot, raw_spot, zero_cells}
use Rattle.lisp_heap.specs.WorldSound.{IsSound, parts_of}
use Rattle.lisp_heap.specs.Parts.{page_labels, fresh_parts}
use Rattle.lisp_heap.specs.Standing.{CellsStand, LabelsStand, Holds, pins_of}
use Rattle.lisp_heap.specs.declared.scratch.Scratch.{Scratch}
use Rattle.lisp_heap.specs.State.{state_of, fresh_state}
use Rattle.lisp_heap.specs.declared.states.ThreadState.{ThreadState}
use Rattle.lisp_heap.specs.declared.world.World.TheInside.{Inside}

-- no page is filled
nothing_filled : (page i : ℕ) → i < 0 → ⊥
nothing_filled page i l = omega arith

-- words 0 in every page
start_words : (p : Program) → WordsStand (start p) (replicate (page_words * p.pages) 0)
unfolding start
start_words p = record {
  long = length-replicate (page_words * p.pages) 0 ∙ ap (λ (n : ℕ). page_words * n) (sym (length-replicate p.pages Free));
  spelled = λ name. tt;
  kept = λ name. tt;
  fillers = λ page i l none. absurd (nothing_filled page i (rw (start_free p page) at l));
}

start_labels : (p : Program) → LabelsStand (start p) (replicate (page_labels * p.pages) 0)
unfolding start
start_labels p = record {
  long = length-replicate (page_labels * p.pages) 0 ∙ ap (λ (n : ℕ). page_labels * n) (sym (length-replicate p.pages Free));
  named = λ name. tt;
}

start_count : (p : Program) → length (start p).threads ≡ length p.threads
unfolding start
start_count p = length-map p.threads (λ _. fresh_thread)

-- a cell of sixteen zeros
zero_cell : (objects : List (Option Object)) (i : ℕ) → i < 16 → 0 ≡ word_of objects (get_or (replicate 16 zero_value) i zero_value)
zero_cell objects i h = ap (word_of objects) (sym (get_or-replicate 16 i zero_value zero_value h))

shared_cell : (p : Program) (i : ℕ) → i < 16 → 0 ≡ word_of (start p).objects (get_or (start p).shared i zero_value)
unfolding start
shared_cell p i hi = zero_cell (start p).objects i hi

start_stands : (p : Program) → CellsStand (start p) (zero_cells (length p.threads))
start_stands p =
    let n = length p.threads in
    record {
      stack_length = length-replicate (16 * n) 0 ∙ ap (λ (k : ℕ). 16 * k) (sym (start_count p));
      exact_length = length-replicate (16 * n) 0 ∙ ap (λ (k : ℕ). 16 * k) (sym (start_count p));
      raws_length = length-replicate (8 * n) 0 ∙ ap (λ (k : ℕ). 8 * k) (sym (start_count p));
      shared_length = length-replicate {A = ℕ} 16 0;
      stack = λ t i ht hi. (
          let lt : t < length p.threads = subst (λ (k : ℕ). t < k) (start_count p) ht in
          let inside : spot t i < 16 * n = omega arith in
          get_or-replicate (16 * n) (spot t i) 0 0 inside ∙ zero_cell (start p).objects i hi
          ∙ ap (λ (x : Thread). word_of (start p).objects (get_or x.stack i zero_value)) (sym (start_thread_is p t lt)));
      exact = λ t i ht hi. (
          let lt : t < length p.threads = subst (λ (k : ℕ). t < k) (start_count p) ht in
          let inside : spot t i < 16 * n = omega arith in
          get_or-replicate (16 * n) (spot t i) 0 0 inside ∙ zero_cell (start p).objects i hi
          ∙ ap (λ (x : Thread). word_of (start p).objects (get_or x.exact i zero_value)) (sym (start_thread_is p t lt)));
      raws = λ t i ht hi. (
          let lt : t < length p.threads = subst (λ (k : ℕ). t < k) (start_count p) ht in
          let inside : raw_spot t i < 8 * n = omega arith in
          get_or-replicate (8 * n) (raw_spot t i) 0 0 inside ∙ sym (get_or-replicate 8 i 0 0 hi)
          ∙ ap (λ (x : Thread). get_or x.raws i 0) (sym (start_thread_is p t lt)));
      shared = λ i hi. get_or-replicate 16 i 0 0 hi ∙ shared_cell p i hi;
    }

start_states : (p : Program) → replicate (length p.threads) fresh_state ≡ map state_of (start p).threads
unfolding start
start_states p = each p.threads
  where
    each : (scripts : List (List Command)) → replicate (length scripts) fresh_state ≡ map state_of (map (λ _. fresh_thread) scripts)
    each [] = refl
    each (s ∷ scripts) = ap (λ (xs : List ThreadState). fresh_state ∷ xs) (each scripts)

start_pins : (p : Program) → replicate (length p.threads) [] ≡ map pins_of (start p).threads
unfolding start
start_pins p = each p.threads
  where
    each : (scripts : List (List Command)) → replicate (length scripts) [] ≡ map pins_of (map (λ _. fresh_thread) scripts)
    each [] = refl
    each (s ∷ scripts) = ap (λ (xs : List (List ℕ)). [] ∷ xs) (each scripts)

start_pages : (p : Program) → replicate p.pages Free ≡ (start p).pages
unfolding start
start_pages p = refl

start_commits : (p : Program) → 0 ≡ length (start p).objects
unfolding start
start_commits p = refl

start_stats : (p : Program) → StatsStand (start p) fresh_stats
unfolding start
start_stats p = record { allocated_is = λ g low. zeros g (omega arith); cum_is = refl; num_is = refl }
  where
    zeros : (g : ℕ) → g < 7 → get_or {A = ℕ} (replicate 7 0) g 0 ≡ 0
    zeros g low = get_or-replicate 7 g 0 0 low

start_counted : (p : Program) → 0 ≡ (start p).counted
unfolding start
start_counted p = refl

start_triggered : (p : Program) → 0 ≡ (start p).triggered
unfolding start
start_triggered p = refl

start_finalizers : (p : Program) → FinalizersStand (start p) (record { registered = []; queue = [] })
unfolding start
start_finalizers p = record { registered = refl; queue = refl }

holds_start : (p : Program) → Holds (start p) (fresh_parts p)
holds_start p = record {
  words = start_words p;
  pages = start_pages p;
  labels = start_labels p;
  cells = start_stands p;
  states = start_states p;
  pins = start_pins p;
  commits = start_commits p;
  stats = start_stats p;
  counted = start_counted p;
  triggered = start_triggered p;
  finalizers = start_finalizers p;
}

no_scratch : (o : Option Scratch) (x : Scratch) → o ≡ None → o ≡ Some x → ⊥
no_scratch o x none some = cc

-- the fields of a World without a history
pub starts_sound : (s : Inside) → IsValid s.program → s.history.items ≡ [] → parts_of s ≡ fresh_parts s.program → s.scratch ≡ None → IsSound s
starts_sound s valid empty parts scratch = record {
  valid = valid;
  lawful = subst (λ (es : List Event). Lawful s.program es) (sym empty) tt;
  holds = subst (λ (es : List Event). Holds (replay s.program es) (parts_of s)) (sym empty)
      (subst (Holds (start s.program)) (sym parts) (holds_start s.program));
  scratch = λ x e. absurd (no_scratch s.scratch x scratch e);
}

-- a World whose fields are as at the start
pub fresh_is : (s : Inside) → s.space ≡ replicate (page_words * s.program.pages) 0 → s.pages ≡ replicate s.program.pages Free →
    s.labels ≡ replicate (page_labels * s.program.pages) 0 → s.cells ≡ zero_cells (length s.program.threads) →
    s.states ≡ replicate (length s.program.threads) fresh_state → s.pins ≡ replicate (length s.program.threads) [] → s.commits ≡ 0 → s.stats ≡ fresh_stats → s.counted ≡ 0 → s.triggered ≡ 0 → s.finalizers ≡ record { registered = []; queue = [] } → parts_of s ≡ fresh_parts s.program
fresh_is s words pages labels cells states pins commits stats counted triggered finalizers = cc
