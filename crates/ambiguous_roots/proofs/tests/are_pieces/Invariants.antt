use Rattle.std.proofs.Common.{◌-◌, List}
use Rattle.heap_terms.specs.LaidOut.{AreLaidOut, Piece}
use Rattle.ambiguous_roots.proofs.tests.are_pieces.Given as goal

abbrev pub invariant-loop-index : goal.invariant-loop-index
invariant-loop-index l =
    ((pieces : List Piece) × AreLaidOut l.space l.index l.end pieces) → (pieces : List Piece) × AreLaidOut l.space l.from l.end pieces

abbrev pub decreases-loop-index : goal.decreases-loop-index
decreases-loop-index l = l.end - l.index
