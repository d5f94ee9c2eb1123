-- What stays the same over two steps.
use Rattle.std.proofs.Common.{refl, ◌∙◌}
use Rattle.copy_space.specs.declared.copier.Copier.{Copier}
use Rattle.copy_space.specs.declared.notes.PassNotes.{PassNotes}
use Rattle.copy_space.specs.Notes.{SameRest}
use Rattle.weak_refs.specs.Breaking.{SameButBroken}
use Rattle.weak_refs.specs.Culling.{SameButCulled}
use Rattle.weak_refs.specs.Rewriting.{HasSameParts}

pub rest-on : (x y z : PassNotes) → SameRest x y → SameRest y z → SameRest x z
rest-on x y z h k = record {
  generation = k.generation ∙ h.generation;
  target = k.target ∙ h.target;
  pins = k.pins ∙ h.pins;
  freed = k.freed ∙ h.freed;
  dead = k.dead ∙ h.dead;
  kept = k.kept ∙ h.kept;
}

pub rest-same : (x : PassNotes) → SameRest x x
rest-same x = record { generation = refl; target = refl; pins = refl; freed = refl; dead = refl; kept = refl }

pub broken-on : (x y z : PassNotes) → SameButBroken x y → SameButBroken y z → SameButBroken x z
broken-on x y z h k = record { rest = rest-on x y z h.rest k.rest; culls = k.culls ∙ h.culls; queued = k.queued ∙ h.queued }

pub parts-on : (x y z : Copier) → HasSameParts x y → HasSameParts y z → HasSameParts x z
parts-on x y z h k = record {
  same_space = k.same_space ∙ h.same_space;
  same_pages = k.same_pages ∙ h.same_pages;
  same_marks = k.same_marks ∙ h.same_marks;
  same_notes = k.same_notes ∙ h.same_notes;
}

pub parts-same : (x : Copier) → HasSameParts x x
parts-same x = record { same_space = refl; same_pages = refl; same_marks = refl; same_notes = refl }

pub culled-on : (x y z : PassNotes) → SameButCulled x y → SameButCulled y z → SameButCulled x z
culled-on x y z h k = record { rest = rest-on x y z h.rest k.rest; breaks = k.breaks ∙ h.breaks; queued = k.queued ∙ h.queued }
