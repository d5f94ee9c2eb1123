-- Notes of which only some lists grew.
use Rattle.std.specs.Prelude.{◌≡◌}
use Rattle.copy_space.specs.declared.notes.PassNotes.{PassNotes}

-- what the copier never touches: the pass's generations, the pins, the freed pages and the counts
pub record SameRest (old new : PassNotes) : Type 0 where
  pub generation : new.generation ≡ old.generation
  pub target : new.target ≡ old.target
  pub pins : new.pins ≡ old.pins
  pub freed : new.freed ≡ old.freed
  pub dead : new.dead ≡ old.dead
  pub kept : new.kept ≡ old.kept

-- all but the moves, the culls, the breaks and the queued are as before, and of these all but one
pub record SameButMoves (old new : PassNotes) : Type 0 where
  pub rest : SameRest old new
  pub culls : new.culls ≡ old.culls
  pub breaks : new.breaks ≡ old.breaks
  pub queued : new.queued ≡ old.queued

pub record SameButCulls (old new : PassNotes) : Type 0 where
  pub rest : SameRest old new
  pub moves : new.moves ≡ old.moves
  pub breaks : new.breaks ≡ old.breaks
  pub queued : new.queued ≡ old.queued

pub record SameButBreaks (old new : PassNotes) : Type 0 where
  pub rest : SameRest old new
  pub moves : new.moves ≡ old.moves
  pub culls : new.culls ≡ old.culls
  pub queued : new.queued ≡ old.queued

pub record SameButQueued (old new : PassNotes) : Type 0 where
  pub rest : SameRest old new
  pub moves : new.moves ≡ old.moves
  pub culls : new.culls ≡ old.culls
  pub breaks : new.breaks ≡ old.breaks
