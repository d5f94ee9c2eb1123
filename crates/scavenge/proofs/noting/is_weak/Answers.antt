-- A word that is no header has no kind.
use Rattle.std.proofs.Common.{refl}
use Rattle.scavenge.proofs.noting.is_weak.Goals as goal

pub returns-in-None : goal.returns-in-None
returns-in-None c = λ kind n is. absurd (c.in-None.ensures.none refl kind n is)
