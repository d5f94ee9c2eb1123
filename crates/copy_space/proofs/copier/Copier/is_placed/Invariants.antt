use Rattle.copy_space.proofs.copier.Copier.is_placed.Given as goal

abbrev pub ghost-find : goal.ghost-find
ghost-find g a = g.a
