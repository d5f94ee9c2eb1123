-- The record of a pass, in names, from its notes, in indices; and the labels after it.
use Rattle.std.specs.Prelude.{◌≡◌, ℕ, ◌/◌, ◌<◌, ◌≤◌, ◌==◌, List, [], ◌∷◌, length, map, All, Option, Some, None, IfSome, slice_index, slice_set, if◌then◌else◌, vec_capacity}
use Rattle.heap_terms.specs.declared.events.PassRecord.{PassRecord}
use Rattle.heap_terms.specs.declared.events.PinAt.{PinAt}
use Rattle.heap_terms.specs.declared.events.Placing.{Placing}
use Rattle.copy_space.specs.declared.notes.Move.{Move}
use Rattle.copy_space.specs.declared.notes.PassNotes.{PassNotes}
use Rattle.heap_terms.specs.Heap.{NamedHeap}
use Rattle.heap_terms.specs.Survival.{breaks_of, culls_of}
use Rattle.pair_laws.specs.Counts.{pair_count}
use Rattle.pass_names.specs.Named.{AreNotes, Met}
use Rattle.pass_names.specs.Room.{HasRoomFor}
use Rattle.lisp_heap.specs.declared.recording.RecordRoom.{RecordRoom}
use Rattle.lisp_heap.specs.declared.recording.RecordSizes.{RecordSizes}

-- where a move goes; equal indices are a stay
abbrev pub new_place : Move → Option ℕ
new_place m = if m.new == m.old then None else Some m.new

-- a move with the name that was at its old place
abbrev pub placing_by : List ℕ → Move → Placing
placing_by labels m = record { name = slice_index labels (m.old / 2); old = m.old; new = new_place m }

-- a pinned object with its name
abbrev pub pin_by : List ℕ → ℕ → PinAt
pin_by labels index = record { name = slice_index labels (index / 2); index = index }

-- what notes tell of a pass over a heap, of whose weak pointers and tables it met the living ones: culls and breaks are those
-- of the definition, by name
abbrev pub recorded : List ℕ → Met → PassNotes → PassRecord
recorded labels m n = record {
  generation = n.generation;
  target = n.target;
  moves = map (placing_by labels) n.moves.items;
  pins = map (pin_by labels) n.pins.items;
  culls = culls_of m.heap m.live;
  breaks = breaks_of m.heap m.live;
  queued = n.queued.items;
  freed = n.freed.items;
  dead = n.dead;
  kept = n.kept;
}

-- the indices in the notes have labels, and the notes of culls and breaks are of some heap of these labels
pub record HaveLabels (labels : List ℕ) (n : PassNotes) : Type 0 where
  pub moves : All (λ (m : Move). m.old / 2 < length labels) n.moves.items
  pub pins : All (λ (index : ℕ). index / 2 < length labels) n.pins.items
  pub met : Met
  pub weak : AreNotes met labels n

-- how long the lists of notes are
abbrev pub sizes_noted : PassNotes → RecordSizes
sizes_noted n = record {
  moves = length n.moves.items;
  pins = length n.pins.items;
  culls = length n.culls.items;
  breaks = length n.breaks.items;
  queued = length n.queued.items;
  freed = length n.freed.items;
}

-- how long the lists of a record of a pass are at most, where so many words pin
abbrev pub sizes_of : NamedHeap → ℕ → RecordSizes
sizes_of a pins = record {
  moves = length a.objects;
  pins = pins;
  culls = pair_count a;
  breaks = length a.objects;
  queued = length a.finalizers;
  freed = length a.pages;
}

-- there is room for the lists of a record of these sizes
pub record HasRoom (room : RecordRoom) (sizes : RecordSizes) : Type 0 where
  pub no_moves : room.moves.items ≡ []
  pub no_pins : room.pins.items ≡ []
  pub no_queued : room.queued.items ≡ []
  pub no_freed : room.freed.items ≡ []
  pub moves_fit : sizes.moves ≤ vec_capacity room.moves
  pub pins_fit : sizes.pins ≤ vec_capacity room.pins
  pub queued_fit : sizes.queued ≤ vec_capacity room.queued
  pub freed_fit : sizes.freed ≤ vec_capacity room.freed
  pub weak : HasRoomFor room.weak sizes.culls sizes.breaks

-- no list is longer
pub record AreWithin (small big : RecordSizes) : Type 0 where
  pub moves : small.moves ≤ big.moves
  pub pins : small.pins ≤ big.pins
  pub culls : small.culls ≤ big.culls
  pub breaks : small.breaks ≤ big.breaks
  pub queued : small.queued ≤ big.queued
  pub freed : small.freed ≤ big.freed

-- the labels after an object was put at its new place
abbrev pub labelled_at : List ℕ → ℕ → Option ℕ → List ℕ
labelled_at labels name None = labels
labelled_at labels name (Some index) = slice_set labels (index / 2) name

abbrev pub labelled_by : List ℕ → Placing → List ℕ
labelled_by labels m = labelled_at labels m.name m.new

-- the labels after all moves of a record, one after the other
abbrev pub relabelled : List ℕ → List Placing → List ℕ
relabelled labels [] = labels
relabelled labels (m ∷ rest) = relabelled (labelled_by labels m) rest

-- the new places have labels
abbrev pub CanRelabel : List ℕ → List Placing → Type 0
CanRelabel labels moves = All (λ (m : Placing). IfSome m.new (λ index. index / 2 < length labels)) moves
