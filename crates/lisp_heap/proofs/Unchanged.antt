-- What stands for a heap stands for another one with the same objects, pages and cells.
use Rattle.std.proofs.Common.{◌≡◌, ℕ, ◌+◌, ◌*◌, ◌/◌, ◌<◌, List, length, map, refl, sym, ◌∙◌, subst, ap, get_or, set, length-set, Option}
use Rattle.std.proofs.Math.Seq.{map-set_same}
use Rattle.std.proofs.lemmas.List.{map-set, get_or-map}
use Rattle.std.specs.Prelude.{if◌then◌else◌, slice_index, slice_set, sum_by, IfSome}
use Rattle.heap_terms.specs.declared.cells.Cell.{Cell}
use Rattle.heap_terms.specs.declared.cells.Cell.TheVariants.{Stack, Exact, Shared}
use Rattle.heap_terms.specs.declared.cells.Raw.{Raw}
use Rattle.heap_terms.specs.declared.cells.Value.{Value}
use Rattle.heap_terms.specs.declared.pages.Entry.{Entry}
use Rattle.heap_terms.specs.Cells.{with_cell}
use Rattle.heap_terms.specs.Generations.{has_generation, words_taken}
use Rattle.heap_terms.specs.Heap.{NamedHeap, Thread, thread_at, with_thread, object_at, entry_at, fill_of}
use Rattle.heap_terms.specs.Layout.{page_words, filler_word}
use Rattle.heap_terms.specs.Objects.{Object}
use Rattle.heap_terms.specs.RawCells.{with_raw}
use Rattle.heap_terms.specs.Stands.{WordsStand, SlotsStand, KeptStand}
use Rattle.heap_terms.specs.WellFormed.{IsOwned}
use Rattle.generation_policy.specs.Numbers.{StatsStand}
use Rattle.generation_policy.specs.declared.stats.GenStats.{GenStats}
use Rattle.lisp_heap.specs.Standing.{LabelsStand, pins_of}
use Rattle.lisp_heap.specs.State.{state_of}
use Rattle.lisp_heap.specs.declared.states.ThreadState.{ThreadState}

pub WordsStand-same : (a b : NamedHeap) (words : List ℕ) → b.objects ≡ a.objects → b.pages ≡ a.pages → WordsStand a words → WordsStand b words
WordsStand-same a b words objects pages s = record {
  long = s.long ∙ ap (λ (ps : List Entry). page_words * length ps) (sym pages);
  spelled = subst (λ (os : List (Option Object)). (name : ℕ) → IfSome (object_at os name) (λ o. SlotsStand os words o.place o.contents)) (sym objects) s.spelled;
  kept = subst (λ (os : List (Option Object)). (name : ℕ) → IfSome (object_at os name) (λ o. KeptStand words o.place o.contents)) (sym objects) s.kept;
  fillers = subst (λ (os : List (Option Object)). (page i : ℕ) → i < fill_of (entry_at b.pages page) → ¬ IsOwned os (page_words * page + i) →
      slice_index words (page_words * page + i) ≡ filler_word) (sym objects)
      (subst (λ (ps : List Entry). (page i : ℕ) → i < fill_of (entry_at ps page) → ¬ IsOwned a.objects (page_words * page + i) →
      slice_index words (page_words * page + i) ≡ filler_word) (sym pages) s.fillers);
}

pub LabelsStand-same : (a b : NamedHeap) (labels : List ℕ) → b.objects ≡ a.objects → b.pages ≡ a.pages → LabelsStand a labels → LabelsStand b labels
LabelsStand-same a b labels objects pages s = record {
  long = s.long ∙ ap (λ (ps : List Entry). 256 * length ps) (sym pages);
  named = subst (λ (os : List (Option Object)). (name : ℕ) → IfSome (object_at os name) (λ o. slice_index labels (o.place / 2) ≡ name)) (sym objects) s.named;
}

-- the words that an object adds to those of generation g
abbrev words_in : ℕ → Option Object → ℕ
words_in g o = if has_generation g o then words_taken o else 0

-- the policy's numbers are the same where those of the heap are
pub StatsStand-same : (a b : NamedHeap) (stats : GenStats) → b.objects ≡ a.objects → b.cum ≡ a.cum → b.num ≡ a.num → StatsStand a stats → StatsStand b stats
StatsStand-same a b stats objects cum num s = record {
  allocated_is = λ g low. s.allocated_is g low ∙ ap (λ (os : List (Option Object)). sum_by (words_in g) os) (sym objects);
  cum_is = s.cum_is ∙ sym cum;
  num_is = s.num_is ∙ sym num;
}

-- a heap with the same numbers of the policy
pub record HasSameNumbers (a b : NamedHeap) : Type 0 where
  pub cum : b.cum ≡ a.cum
  pub num : b.num ≡ a.num
  pub counted : b.counted ≡ a.counted
  pub triggered : b.triggered ≡ a.triggered
  pub finalizers : b.finalizers ≡ a.finalizers
  pub queue : b.queue ≡ a.queue

pub with_cell-numbers : (a : NamedHeap) (t : ℕ) (cell : Cell) (v : Value) → HasSameNumbers a (with_cell a t cell v)
with_cell-numbers a t (Stack i) v = record { cum = refl; num = refl; counted = refl; triggered = refl; finalizers = refl; queue = refl }
with_cell-numbers a t (Exact i) v = record { cum = refl; num = refl; counted = refl; triggered = refl; finalizers = refl; queue = refl }
with_cell-numbers a t (Shared i) v = record { cum = refl; num = refl; counted = refl; triggered = refl; finalizers = refl; queue = refl }

-- a write of a cell changes no object, no page and no state
pub with_cell-objects : (a : NamedHeap) (t : ℕ) (cell : Cell) (v : Value) → (with_cell a t cell v).objects ≡ a.objects
with_cell-objects a t (Stack i) v = refl
with_cell-objects a t (Exact i) v = refl
with_cell-objects a t (Shared i) v = refl

pub with_cell-pages : (a : NamedHeap) (t : ℕ) (cell : Cell) (v : Value) → (with_cell a t cell v).pages ≡ a.pages
with_cell-pages a t (Stack i) v = refl
with_cell-pages a t (Exact i) v = refl
with_cell-pages a t (Shared i) v = refl

pub with_cell-states : (a : NamedHeap) (t : ℕ) (cell : Cell) (v : Value) → map state_of (with_cell a t cell v).threads ≡ map state_of a.threads
with_cell-states a t (Stack i) v = map-set_same state_of a.threads t (record (thread_at a t) { stack = slice_set (thread_at a t).stack i v }) _ refl
with_cell-states a t (Exact i) v = map-set_same state_of a.threads t (record (thread_at a t) { exact = slice_set (thread_at a t).exact i v }) _ refl
with_cell-states a t (Shared i) v = refl

pub with_cell-pins : (a : NamedHeap) (t : ℕ) (cell : Cell) (v : Value) → map pins_of (with_cell a t cell v).threads ≡ map pins_of a.threads
with_cell-pins a t (Stack i) v = map-set_same pins_of a.threads t (record (thread_at a t) { stack = slice_set (thread_at a t).stack i v }) _ refl
with_cell-pins a t (Exact i) v = map-set_same pins_of a.threads t (record (thread_at a t) { exact = slice_set (thread_at a t).exact i v }) _ refl
with_cell-pins a t (Shared i) v = refl

-- and so does a write of a raw cell
pub with_raw-pins : (a : NamedHeap) (t : ℕ) (r : Raw) (word : ℕ) → map pins_of (with_raw a t r word).threads ≡ map pins_of a.threads
with_raw-pins a t r word = map-set_same pins_of a.threads t (record (thread_at a t) { raws = slice_set (thread_at a t).raws r.0 word }) _ refl

-- likewise a change of a thread that leaves its pins
pub with_thread-pins : (a : NamedHeap) (t : ℕ) (th : Thread) → th.pins ≡ (thread_at a t).pins → map pins_of (with_thread a t th).threads ≡ map pins_of a.threads
with_thread-pins a t th same = map-set_same pins_of a.threads t th _ same

pub with_raw-states : (a : NamedHeap) (t : ℕ) (r : Raw) (word : ℕ) → map state_of (with_raw a t r word).threads ≡ map state_of a.threads
with_raw-states a t r word = map-set_same state_of a.threads t (record (thread_at a t) { raws = slice_set (thread_at a t).raws r.0 word }) _ refl

pub with_cell-threads : (a : NamedHeap) (t : ℕ) (cell : Cell) (v : Value) → length (with_cell a t cell v).threads ≡ length a.threads
with_cell-threads a t (Stack i) v = length-set a.threads t (record (thread_at a t) { stack = slice_set (thread_at a t).stack i v })
with_cell-threads a t (Exact i) v = length-set a.threads t (record (thread_at a t) { exact = slice_set (thread_at a t).exact i v })
with_cell-threads a t (Shared i) v = refl

-- the state of a thread among the states
pub state_read : (a : NamedHeap) (states : List ThreadState) (t : ℕ) (d : ThreadState) → states ≡ map state_of a.threads → t < length a.threads →
    get_or states t d ≡ state_of (thread_at a t)
state_read a states t d is h = ap (λ (xs : List ThreadState). get_or xs t d) is ∙ get_or-map state_of a.threads t _ d h

-- a thread changed, and its state with it
pub states_set : (a : NamedHeap) (states : List ThreadState) (t : ℕ) (th : Thread) (state : ThreadState) → states ≡ map state_of a.threads →
    state ≡ state_of th → set states t state ≡ map state_of (with_thread a t th).threads
states_set a states t th state is same =
    ap (λ (xs : List ThreadState). set xs t state) is ∙ ap (set (map state_of a.threads) t) same ∙ sym (map-set state_of a.threads t th)

-- the pins of a thread among those of all
pub pins_read : (a : NamedHeap) (pins : List (List ℕ)) (t : ℕ) (d : List ℕ) → pins ≡ map pins_of a.threads → t < length a.threads →
    get_or pins t d ≡ (thread_at a t).pins
pins_read a pins t d is h = ap (λ (xs : List (List ℕ)). get_or xs t d) is ∙ get_or-map pins_of a.threads t _ d h

-- the pins of a thread changed, and no others
pub pins_set : (a : NamedHeap) (pins : List (List ℕ)) (t : ℕ) (th : Thread) (words : List ℕ) → pins ≡ map pins_of a.threads → words ≡ th.pins →
    set pins t words ≡ map pins_of (with_thread a t th).threads
pins_set a pins t th words is same =
    ap (λ (xs : List (List ℕ)). set xs t words) is ∙ ap (set (map pins_of a.threads) t) same ∙ sym (map-set pins_of a.threads t th)
