use Rattle.std.proofs.Common.{inl, refl}
use Rattle.scavenge.proofs.clear.refers_to.Goals as goal

pub returns-in-None : goal.returns-in-None
returns-in-None c = λ _. inl (rw c.in-None.is at c.untag.ensures.none refl)
