-- A heap with the values of its exact roots, and when words, pages and roots stand for it. That there are exact and
-- ambiguous roots is SBCL's. Left free is in which order the exact roots stand, how often one does, and which fixnums are
-- among them; and which ambiguous words below the base address are there, since none of those hits an object.
use Rattle.std.specs.Prelude.{◌≡◌, ℕ, ◌≤◌, ◌⊎◌, ◌↔◌, List, map, nat_eq}
use Rattle.std.specs.List.{list_any}
use Rattle.heap_terms.specs.declared.cells.Value.{Value}
use Rattle.heap_terms.specs.declared.pages.Entry.{Entry}
use Rattle.heap_terms.specs.Heap.{NamedHeap, thread_at}
use Rattle.heap_terms.specs.Layout.{base_address}
use Rattle.heap_terms.specs.Living.{AreLiving}
use Rattle.heap_terms.specs.Roots.{ambiguous_words}
use Rattle.heap_terms.specs.Sound.{IsSound}
use Rattle.heap_terms.specs.Spelling.{word_of}
use Rattle.heap_terms.specs.Stands.{WordsStand}
use Rattle.pass_laws.specs.Reached.{HasName}

-- a heap, and the values of a list of exact roots
pub record Rooted : Type 0 where
  pub heap : NamedHeap
  pub values : List Value

-- a name is in an exact cell: a cell b of some thread, or a cell g
abbrev pub IsExactRoot : NamedHeap → ℕ → Type 0
IsExactRoot a name = ((t : ℕ) × HasName (thread_at a t).exact name) ⊎ HasName a.shared name

-- The exact roots are, place by place, the words of the values; these are living, and refer to just the names that are in
-- exact cells. The ambiguous roots have just those ambiguous words of the heap that are no less than the base address.
pub record RootsStand (h : Rooted) (exact ambiguous : List ℕ) : Type 0 where
  pub exact_are : exact ≡ map (word_of h.heap.objects) h.values
  pub living : AreLiving h.heap.objects h.values
  pub exact_names : (name : ℕ) → IsExactRoot h.heap name ↔ HasName h.values name
  pub hits : (word : ℕ) → base_address ≤ word → list_any (nat_eq word) ambiguous ≡ list_any (nat_eq word) (ambiguous_words h.heap)

-- the heap is sound, its words and pages stand for it, and so do its roots
pub record StandFor (h : Rooted) (words : List ℕ) (pages : List Entry) (exact ambiguous : List ℕ) : Type 0 where
  pub sound : IsSound h.heap
  pub words_stand : WordsStand h.heap words
  pub pages_are : pages ≡ h.heap.pages
  pub roots : RootsStand h exact ambiguous
