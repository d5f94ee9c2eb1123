-- Notes of culls and the culled pairs that they tell, one by one.
use Rattle.std.specs.Prelude.{◌≡◌, ℕ, ◌<◌, List, length, Some, slice_index_or}
use Rattle.heap_terms.specs.declared.cells.Value.TheVariants as values
use Rattle.heap_terms.specs.declared.events.Cull.{Cull}
use Rattle.heap_terms.specs.Heap.{NamedHeap, object_at}
use Rattle.heap_terms.specs.Living.{IsLiving}
use Rattle.heap_terms.specs.Objects.{Object}
use Rattle.heap_terms.specs.Spelling.{word_of}
use Rattle.copy_space.specs.declared.notes.CullNote.{CullNote}
use Rattle.pass_names.specs.Labelled.{AreLabels}
use Rattle.pass_names.specs.Places.{no_note}
use Rattle.pass_names.specs.declared.places.NotePlace.{NotePlace}

-- a note tells a culled pair of a heap of these labels: the place of its table, and the words of its sides
pub record IsNoteOf (labels : List ℕ) (c : Cull) (note : CullNote) : Type 0 where
  pub heap : NamedHeap
  pub labels_are : AreLabels heap labels
  pub o : Object
  pub there : object_at heap.objects c.table ≡ Some o
  pub table : note.table ≡ o.place
  pub key_lives : IsLiving heap.objects c.key
  pub key : note.key ≡ word_of heap.objects c.key
  pub value_lives : IsLiving heap.objects c.value
  pub value : note.value ≡ word_of heap.objects c.value

abbrev pub no_cull : Cull
no_cull = record { table = 0; key = values.Nil; value = values.Nil }

-- notes tell culled pairs, one by one
pub record AreNotesOf (labels : List ℕ) (cs : List Cull) (notes : List CullNote) : Type 0 where
  pub long : length cs ≡ length notes
  pub each : (i : ℕ) → i < length notes → IsNoteOf labels (slice_index_or cs i no_cull) (slice_index_or notes i no_note)

-- the culled pair of a note that stands at a place
abbrev pub cull_at : List Cull → NotePlace → Cull
cull_at cs p = slice_index_or cs p.at no_cull
