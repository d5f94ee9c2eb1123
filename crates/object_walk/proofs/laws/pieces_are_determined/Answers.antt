use Rattle.object_walk.proofs.Pieces.{pieces_once}
use Rattle.object_walk.proofs.laws.pieces_are_determined.Goals as goal

pub returns : goal.returns
returns c = pieces_once
