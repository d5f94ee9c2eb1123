-- Where a header stands there is one.
use Rattle.std.proofs.Common.{refl}
use Rattle.weak_refs.proofs.places.kind_at.Goals as goal

pub returns-in-None : goal.returns-in-None
returns-in-None c = λ kind n is. absurd (c.in-None.ensures.none refl kind n (rw c.read.ensures is))
