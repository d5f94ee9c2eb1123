-- Where a mark is that of a pin or of a move, it is cleared; else it was fresh.
use Rattle.std.proofs.Common.{◌∙◌}
use Rattle.copy_space.proofs.Marking.{all-fresh}
use Rattle.copy_space.proofs.marks.clear_marks.Goals as goal

pub returns : goal.returns
returns c =
    all-fresh c.args.marks.now c.mark_starts.new.marks c.clear_moves.new.marks c.args.pins.now.listed c.args.moves.now c.requires.marks_are c.mark_starts.ensures.marked
    c.clear_moves.ensures.marked (c.clear_moves.ensures.long ∙ c.mark_starts.ensures.long)
