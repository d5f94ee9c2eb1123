use Rattle.std.proofs.Common.{refl}
use Rattle.eq_index.specs.Answers.{without}
use Rattle.eq_index.proofs.Changes.{unchanged}
use Rattle.eq_index.proofs.removing.remove.Goals as goal

pub remove_at-requires-clause-there : goal.remove_at-requires-clause-there
remove_at-requires-clause-there c = λ b pairs t. (c.in-Some.ensures b pairs t).0

pub returns-in-Some : goal.returns-in-Some
returns-in-Some c = λ b pairs t.
    (without pairs c.in-Some.slot, (c.in-Some.slot, c.in-Some.ensures b pairs t, refl), c.remove_at.ensures b pairs t)

pub returns-in-None : goal.returns-in-None
returns-in-None c = λ b pairs t. (pairs, (c.in-None.ensures b pairs t, refl), unchanged c.args.space.now c.args.table b pairs t)
