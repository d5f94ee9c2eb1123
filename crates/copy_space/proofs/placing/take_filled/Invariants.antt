use Rattle.copy_space.proofs.Filling.{IsFilling}
use Rattle.copy_space.proofs.placing.take_filled.Given as goal

abbrev pub invariant-loop-page : goal.invariant-loop-page
invariant-loop-page l = IsFilling l.fn.pages l.pages l.fn.ty l.first l.k l.page
