use Rattle.eq_index.proofs.tests.get.Goals as goal

pub returns-clause-table : goal.returns-clause-table
returns-clause-table c = record { b = c.requires.b; pairs = c.requires.pairs; is = (c.look_up.ensures.same c.requires.b c.requires.pairs c.requires.is).is }

pub returns-clause-long : goal.returns-clause-long
returns-clause-long c = (c.look_up.ensures.same c.requires.b c.requires.pairs c.requires.is).elsewhere.long
