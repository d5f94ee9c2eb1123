use Rattle.copy_space.proofs.tests.begin_and_end.Given as goal

abbrev pub ghost-new : goal.ghost-new
ghost-new g a = g.a
