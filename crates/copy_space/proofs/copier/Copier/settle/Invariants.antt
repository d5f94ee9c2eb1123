use Rattle.copy_space.proofs.copier.Copier.settle.Given as goal

abbrev pub ghost-settle_cons : goal.ghost-settle_cons
ghost-settle_cons g a = g.a

abbrev pub ghost-settle_headed : goal.ghost-settle_headed
ghost-settle_headed g a = g.a
