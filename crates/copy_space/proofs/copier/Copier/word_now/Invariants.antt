use Rattle.copy_space.proofs.copier.Copier.word_now.Given as goal

abbrev pub ghost-find : goal.ghost-find
ghost-find g a = g.a
