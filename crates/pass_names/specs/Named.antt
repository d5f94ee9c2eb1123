-- The notes of what a pass culls and breaks, which its record tells in names.
use Rattle.std.specs.Prelude.{◌≡◌, ℕ, List, Bool}
use Rattle.heap_terms.specs.Heap.{NamedHeap}
use Rattle.copy_space.specs.declared.notes.CullNote.{CullNote}
use Rattle.copy_space.specs.declared.notes.PassNotes.{PassNotes}
use Rattle.copy_space.specs.CullNotes.{culled_of, broken_of}
use Rattle.copy_space.specs.WeakNames.{AreWeakNames}
use Rattle.pass_names.specs.Labelled.{AreLabels}

-- a heap before a pass, what lives in it, and the weak pointers and tables that live, in the order in which the pass met them
pub record Met : Type 0 where
  pub heap : NamedHeap
  pub live : ℕ → Bool
  pub names : List ℕ

-- these are the labels of the heap, and the names are those of all live weak pointers and tables
pub record IsMet (m : Met) (labels : List ℕ) : Type 0 where
  pub labels_are : AreLabels m.heap labels
  pub weak : AreWeakNames m.heap m.live m.names

-- the notes of the culls, table by table
pub record AreCullNotes (m : Met) (labels : List ℕ) (notes : List CullNote) : Type 0 where
  pub met : IsMet m labels
  pub noted : notes ≡ culled_of m.heap m.live m.names

-- the places of the weak pointers that were broken
pub record AreBreakNotes (m : Met) (labels : List ℕ) (notes : List ℕ) : Type 0 where
  pub met : IsMet m labels
  pub noted : notes ≡ broken_of m.heap m.live m.names

-- the notes of a pass tell what it culled and broke
pub record AreNotes (m : Met) (labels : List ℕ) (notes : PassNotes) : Type 0 where
  pub culls : AreCullNotes m labels notes.culls.items
  pub breaks : AreBreakNotes m labels notes.breaks.items
