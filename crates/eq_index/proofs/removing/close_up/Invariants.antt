use Rattle.eq_index.specs.Closing.{ClosesUp}
use Rattle.eq_index.proofs.removing.close_up.Given as goal

abbrev pub invariant-loop-index : goal.invariant-loop-index
invariant-loop-index l = ClosesUp l.initial.space l.from l.index l.space
