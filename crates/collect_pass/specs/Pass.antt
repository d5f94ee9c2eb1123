-- One pass over the words, the pages and the roots of a heap.
use Rattle.std.specs.Prelude.{◌≡◌, ℕ, ◌≤◌, List, length, false}
use Rattle.heap_terms.specs.declared.events.PassRecord.{PassRecord}
use Rattle.heap_terms.specs.declared.limits.TheConstants.{OLDEST_COLLECTED}
use Rattle.heap_terms.specs.declared.pages.Entry.{Entry}
use Rattle.heap_terms.specs.Passes.{IsPass, after_pass}
use Rattle.heap_terms.specs.Policy.{target_of}
use Rattle.pass_laws.specs.NoRegions.{IsEmptyBelow}
use Rattle.copy_space.specs.declared.notes.Pass.{Pass}
use Rattle.copy_space.specs.declared.notes.PassNotes.{PassNotes}
use Rattle.copy_space.specs.WeakNames.{weak_count}
use Rattle.finalizers.specs.Lists.{Lists}
use Rattle.finalizers.specs.Standing.{FinalizersStand}
use Rattle.heap_terms.specs.Heap.{NamedHeap}
use Rattle.trace_laws.specs.Noted.{IsToldBy}
use Rattle.trace_laws.specs.Rooted.{Rooted, StandFor}

-- What the room for a pass is seen as: the notes of the latest pass, and for how many pages, how many ambiguous roots, how
-- many weak pointers and tables, and how many queued finalizers it was reserved.
pub record RoomView : Type 0 where
  pub notes : PassNotes
  pub pages : ℕ
  pub ambiguous : ℕ
  pub weak : ℕ
  pub queued : ℕ

-- the room was reserved for a heap of so many pages, for at least so many ambiguous roots, and for at least so many weak
-- pointers and tables
pub record IsReservedFor (room : RoomView) (pages ambiguous weak : ℕ) : Type 0 where
  pub pages_are : room.pages ≡ pages
  pub enough : ambiguous ≤ room.ambiguous
  pub weak_enough : weak ≤ room.weak

-- A pass can be made: words, pages and roots stand for a heap, no object is of a younger generation than the pass's, the
-- oldest generation that is collected is not raised, and there is room.
pub record CanPass (h : Rooted) (words : List ℕ) (pages : List Entry) (exact ambiguous : List ℕ) (pass : Pass) (room : RoomView) : Type 0 where
  pub stand : StandFor h words pages exact ambiguous
  pub generation : pass.generation ≤ OLDEST_COLLECTED
  pub oldest : pass.generation ≡ OLDEST_COLLECTED → pass.raise ≡ false
  pub youngest : IsEmptyBelow h.heap pass.generation
  pub reserved : IsReservedFor room (length pages) (length ambiguous) (weak_count h.heap)

-- its finalizers can be queued: list and queue stand for those of the heap, and there is room for the numbers of all
pub record CanQueue (a : NamedHeap) (finalizers : Lists) (room : RoomView) : Type 0 where
  pub stand : FinalizersStand a finalizers
  pub reserved : length finalizers.registered ≤ room.queued

-- A pass was made: it is lawful, the notes tell its record, and words, pages, finalizers and roots stand for the heap after it. The exact
-- roots are the words of the same values, and the ambiguous roots are as they were.
pub record IsPassDone (h : Rooted) (words : List ℕ) (pages : List Entry) (finalizers : Lists) (exact ambiguous : List ℕ) (pass : Pass) (notes : PassNotes) : Type 0 where
  pub r : PassRecord
  pub is_pass : IsPass h.heap pass.generation (target_of pass.generation pass.raise) r
  pub told : IsToldBy h.heap r notes
  pub stand : StandFor (record { heap = after_pass h.heap r; values = h.values }) words pages exact ambiguous
  pub finalizers_stand : FinalizersStand (after_pass h.heap r) finalizers
