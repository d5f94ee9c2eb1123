-- A word that is no header has no fields behind it.
use Rattle.std.proofs.Common.{refl}
use Rattle.scavenge.proofs.objects.field_count.Goals as goal

pub returns-in-None : goal.returns-in-None
returns-in-None c = λ kind n is. absurd (c.in-None.ensures.none refl kind n is)
