-- When what a World keeps stands for a named heap.
use Rattle.std.specs.Prelude.{◌≡◌, ℕ, ◌*◌, ◌/◌, ◌<◌, List, length, map, IfSome, slice_index, slice_index_or}
use Rattle.heap_terms.specs.Heap.{NamedHeap, Thread, thread_at, object_at, zero_value}
use Rattle.heap_terms.specs.Stands.{WordsStand}
use Rattle.heap_terms.specs.Spelling.{word_of}
use Rattle.finalizers.specs.Standing.{FinalizersStand}
use Rattle.generation_policy.specs.Numbers.{StatsStand}
use Rattle.lisp_heap.specs.CellsView.{CellsView, cells_each, raws_each, spot, raw_spot}
use Rattle.lisp_heap.specs.Parts.{Parts, page_labels}
use Rattle.lisp_heap.specs.State.{state_of}

-- each cell has the word of its value, and each raw cell its word
pub record CellsStand (a : NamedHeap) (v : CellsView) : Type 0 where
  pub stack_length : length v.stack ≡ cells_each * length a.threads
  pub exact_length : length v.exact ≡ cells_each * length a.threads
  pub raws_length : length v.raws ≡ raws_each * length a.threads
  pub shared_length : length v.shared ≡ cells_each
  pub stack : (t i : ℕ) → t < length a.threads → i < cells_each →
      slice_index v.stack (spot t i) ≡ word_of a.objects (slice_index_or (thread_at a t).stack i zero_value)
  pub exact : (t i : ℕ) → t < length a.threads → i < cells_each →
      slice_index v.exact (spot t i) ≡ word_of a.objects (slice_index_or (thread_at a t).exact i zero_value)
  pub raws : (t i : ℕ) → t < length a.threads → i < raws_each →
      slice_index v.raws (raw_spot t i) ≡ slice_index_or (thread_at a t).raws i 0
  pub shared : (i : ℕ) → i < cells_each → slice_index v.shared i ≡ word_of a.objects (slice_index_or a.shared i zero_value)

-- the label at each object's first double word is its name
pub record LabelsStand (a : NamedHeap) (labels : List ℕ) : Type 0 where
  pub long : length labels ≡ page_labels * length a.pages
  pub named : (name : ℕ) → IfSome (object_at a.objects name) (λ o. slice_index labels (o.place / 2) ≡ name)

-- the pins of a thread, the latest last
abbrev pub pins_of : Thread → List ℕ
pins_of th = th.pins

-- all that a World keeps stands for a named heap
pub record Holds (a : NamedHeap) (v : Parts) : Type 0 where
  pub words : WordsStand a v.words
  pub pages : v.pages ≡ a.pages
  pub labels : LabelsStand a v.labels
  pub cells : CellsStand a v.cells
  pub states : v.states ≡ map state_of a.threads
  pub pins : v.pins ≡ map pins_of a.threads
  pub commits : v.commits ≡ length a.objects
  pub stats : StatsStand a v.stats
  pub counted : v.counted ≡ a.counted
  pub triggered : v.triggered ≡ a.triggered
  pub finalizers : FinalizersStand a v.finalizers
