-- The room for passes: clear between them, and large enough.
use Rattle.std.specs.Prelude.{◌≡◌, ℕ, ◌+◌, ◌*◌, ◌≤◌, List, [], length, replicate, false, vec_capacity}
use Rattle.heap_terms.specs.declared.limits.TheConstants.{MOST_PAGES}
use Rattle.copy_space.specs.declared.marks.Mark.TheVariants.{Fresh}
use Rattle.copy_space.specs.declared.notes.Pass.{Pass}
use Rattle.copy_space.specs.declared.notes.PassNotes.{PassNotes}
use Rattle.collect_pass.specs.declared.room.PassRoom.TheInside.{Inside}
use Rattle.collect_pass.specs.Pass.{RoomView}

-- notes have room for a move of every double word, for so many pins, for every page, for all pairs of so many tables, and
-- for as many broken weak pointers
pub record AreNotesFor (notes : PassNotes) (pages pins weak : ℕ) : Type 0 where
  pub for_moves : 256 * pages ≤ vec_capacity notes.moves
  pub for_pins : pins ≤ vec_capacity notes.pins
  pub for_freed : pages ≤ vec_capacity notes.freed
  pub for_culls : 64 * weak ≤ vec_capacity notes.culls
  pub for_breaks : weak ≤ vec_capacity notes.breaks

-- what contracts see of the room: it is for as many pages as there are flags, for as many ambiguous roots as pins, for as
-- many weak pointers and tables as can be listed, and for as many queued finalizers as can be noted
abbrev pub room_view : Inside → RoomView
room_view r = record { notes = r.notes; pages = length r.held; ambiguous = r.pins.most; weak = r.weak.most; queued = vec_capacity r.notes.queued }

-- nothing is marked, hinted, pinned, listed or held
pub record IsRoom (r : Inside) : Type 0 where
  pub most : length r.held ≤ MOST_PAGES
  pub marks : r.marks ≡ replicate (256 * length r.held) Fresh
  pub hints : r.hints ≡ replicate (256 * length r.held) false
  pub pins : r.pins.listed ≡ []
  pub held : r.held ≡ replicate (length r.held) false
  pub weak : r.weak.listed ≡ []
  pub notes : AreNotesFor r.notes (length r.held) r.pins.most r.weak.most

-- the notes of a pass before it: all lists are empty, and have the room that they had
pub record AreCleared (old new : PassNotes) : Type 0 where
  pub moves : new.moves.items ≡ []
  pub pins : new.pins.items ≡ []
  pub culls : new.culls.items ≡ []
  pub breaks : new.breaks.items ≡ []
  pub queued : new.queued.items ≡ []
  pub freed : new.freed.items ≡ []
  pub moves_room : vec_capacity new.moves ≡ vec_capacity old.moves
  pub pins_room : vec_capacity new.pins ≡ vec_capacity old.pins
  pub freed_room : vec_capacity new.freed ≡ vec_capacity old.freed
  pub culls_room : vec_capacity new.culls ≡ vec_capacity old.culls
  pub breaks_room : vec_capacity new.breaks ≡ vec_capacity old.breaks
  pub queued_room : vec_capacity new.queued ≡ vec_capacity old.queued

-- notes can be finished: there is room for the pins, and no more objects remain than the generation had
pub record CanFinish (notes : PassNotes) (pins : List ℕ) (count : ℕ) : Type 0 where
  pub none : notes.pins.items ≡ []
  pub room : length pins ≤ vec_capacity notes.pins
  pub kept : length pins + length notes.moves.items ≤ count

-- the notes of a pass at its end: besides its lists, the pins, the generations and the counts
pub record AreFinished (old new : PassNotes) (pins : List ℕ) (pass : Pass) (target count : ℕ) : Type 0 where
  pub moves : new.moves ≡ old.moves
  pub freed : new.freed ≡ old.freed
  pub culls : new.culls ≡ old.culls
  pub breaks : new.breaks ≡ old.breaks
  pub queued : new.queued ≡ old.queued
  pub pins_are : new.pins.items ≡ pins
  pub pins_room : vec_capacity new.pins ≡ vec_capacity old.pins
  pub generation : new.generation ≡ pass.generation
  pub target_is : new.target ≡ target
  pub kept : new.kept ≡ length pins + length old.moves.items
  pub dead : new.dead + new.kept ≡ count
