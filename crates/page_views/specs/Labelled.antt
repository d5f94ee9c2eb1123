-- What a view of a page is taken from: words, pages and labels that stand for a heap. What stands in a label where no object
-- begins is left free.
use Rattle.std.specs.Prelude.{◌≡◌, ℕ, ◌*◌, ◌/◌, List, length, IfSome, slice_index}
use Rattle.heap_terms.specs.declared.pages.Entry.{Entry}
use Rattle.heap_terms.specs.declared.pages.Entry.TheVariants.{Free, Used}
use Rattle.heap_terms.specs.Heap.{NamedHeap, object_at}
use Rattle.heap_terms.specs.Sound.{IsSound}
use Rattle.heap_terms.specs.Stands.{WordsStand}

-- how many labels a page has, one for each double word
abbrev pub labels_each : ℕ
labels_each = 256

-- words and pages stand for a sound heap, and the label of each object's first double word is its name
pub record CanView (a : NamedHeap) (words : List ℕ) (pages : List Entry) (labels : List ℕ) : Type 0 where
  pub sound : IsSound a
  pub stand : WordsStand a words
  pub pages_are : pages ≡ a.pages
  pub labels_long : length labels ≡ labels_each * length a.pages
  pub named : (name : ℕ) → IfSome (object_at a.objects name) (λ o. slice_index labels (o.place / 2) ≡ name)

-- a page is a run by itself, and so many of its words are used
abbrev pub IsByItself : Entry → ℕ → Type 0
IsByItself Free used = ⊥
IsByItself (Used ty g fill first pages) used = (pages ≡ 1) × (fill ≡ used)
