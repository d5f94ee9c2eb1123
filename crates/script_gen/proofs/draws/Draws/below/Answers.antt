use Rattle.std.proofs.Common.{refl}
use Rattle.heap_terms.specs.Generated.{number_from}
use Rattle.script_gen.proofs.draws.Draws.below.Goals as goal

pub returns-clause-drawn : goal.returns-clause-drawn
unfolding number_from
returns-clause-drawn c = rw (c.step.ensures, c.from.ensures) refl
