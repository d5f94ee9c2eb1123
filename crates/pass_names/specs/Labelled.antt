-- Labels: the name of each object stands at its first double word. What stands elsewhere is left free.
use Rattle.std.specs.Prelude.{◌≡◌, ℕ, ◌*◌, ◌/◌, ◌≤◌, List, length, Some, slice_index}
use Rattle.heap_terms.specs.declared.cells.Value.{Value}
use Rattle.heap_terms.specs.declared.limits.TheConstants.{MOST_PAGES}
use Rattle.heap_terms.specs.Heap.{NamedHeap, object_at}
use Rattle.heap_terms.specs.Living.{IsLiving}
use Rattle.heap_terms.specs.Objects.{Object}
use Rattle.heap_terms.specs.Sound.{IsSound}
use Rattle.heap_terms.specs.Spelling.{word_of}

-- how many labels a page has, one for each double word
abbrev pub labels_each : ℕ
labels_each = 256

-- the label at the double word of an index
abbrev pub label_at : List ℕ → ℕ → ℕ
label_at labels index = slice_index labels (index / 2)

-- the labels of a sound heap
pub record AreLabels (a : NamedHeap) (labels : List ℕ) : Type 0 where
  pub sound : IsSound a
  pub few : length a.pages ≤ MOST_PAGES
  pub long : length labels ≡ labels_each * length a.pages
  pub named : (name : ℕ) (o : Object) → object_at a.objects name ≡ Some o → label_at labels o.place ≡ name

-- an object of a heap of these labels begins at an index
pub record HasName (labels : List ℕ) (index : ℕ) : Type 0 where
  pub heap : NamedHeap
  pub labels_are : AreLabels heap labels
  pub name : ℕ
  pub o : Object
  pub there : object_at heap.objects name ≡ Some o
  pub here : index ≡ o.place

-- a word stands for a living value of a heap of these labels
pub record IsNamedWord (labels : List ℕ) (word : ℕ) : Type 0 where
  pub heap : NamedHeap
  pub labels_are : AreLabels heap labels
  pub value : Value
  pub living : IsLiving heap.objects value
  pub word_is : word ≡ word_of heap.objects value
