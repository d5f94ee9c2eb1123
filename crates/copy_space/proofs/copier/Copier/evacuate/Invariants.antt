use Rattle.copy_space.proofs.copier.Copier.evacuate.Given as goal

abbrev pub ghost-find : goal.ghost-find
ghost-find g a = g.a

abbrev pub ghost-settle : goal.ghost-settle
ghost-settle g a = g.a
