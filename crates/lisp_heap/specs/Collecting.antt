-- One pass of a collection over the fields of a World.
use Rattle.std.specs.Prelude.{ℕ, ◌≤◌, List, length, All}
use Rattle.heap_terms.specs.declared.events.PassRecord.{PassRecord}
use Rattle.heap_terms.specs.declared.limits.TheConstants.{MOST_PAGES}
use Rattle.heap_terms.specs.declared.pages.Entry.{Entry}
use Rattle.heap_terms.specs.Passes.{IsPass, after_pass}
use Rattle.heap_terms.specs.Policy.{target_of}
use Rattle.collect_pass.specs.Pass.{CanPass, RoomView}
use Rattle.copy_space.specs.declared.notes.Pass.{Pass}
use Rattle.trace_laws.specs.Noted.{IsMoveOf}
use Rattle.trace_laws.specs.Rooted.{Rooted, StandFor}
use Rattle.lisp_heap.specs.Recording.{HasRoom, sizes_of}
use Rattle.lisp_heap.specs.Standing.{LabelsStand}
use Rattle.lisp_heap.specs.declared.recording.RecordRoom.{RecordRoom}

-- a pass can be made, the labels stand for the heap, and there is room for the record
pub record CanMake (h : Rooted) (words : List ℕ) (pages : List Entry) (labels exact ambiguous : List ℕ) (pass : Pass) (room : RoomView) (record_room : RecordRoom) : Type 0 where
  pub can : CanPass h words pages exact ambiguous pass room
  pub named : LabelsStand h.heap labels
  pub few_pages : length h.heap.pages ≤ MOST_PAGES
  pub fits : HasRoom record_room (sizes_of h.heap (length ambiguous))

-- A pass was made: the record tells it, and words, pages, labels and roots stand for the heap after it, the exact roots
-- for the same values.
pub record IsMade (h : Rooted) (words : List ℕ) (pages : List Entry) (labels exact ambiguous : List ℕ) (pass : Pass) (r : PassRecord) : Type 0 where
  pub is_pass : IsPass h.heap pass.generation (target_of pass.generation pass.raise) r
  pub moved : All (IsMoveOf h.heap) r.moves
  pub stand : StandFor (record { heap = after_pass h.heap r; values = h.values }) words pages exact ambiguous
  pub named : LabelsStand (after_pass h.heap r) labels
