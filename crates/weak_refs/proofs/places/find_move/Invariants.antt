use Rattle.weak_refs.specs.Places.{NoMoveTo}
use Rattle.weak_refs.proofs.places.find_move.Given as goal

abbrev pub invariant-loop-k : goal.invariant-loop-k
invariant-loop-k l = NoMoveTo l.moves l.to l.from l.k
