-- A header tells the size; what is none begins a cons.
use Rattle.std.proofs.Common.{refl}
use Rattle.scavenge.proofs.older.words_from.Goals as goal

pub returns-in-None-clause-headed : goal.returns-in-None-clause-headed
returns-in-None-clause-headed c = λ kind n is. absurd (c.in-None.ensures.none refl kind n is)
