use Rattle.weak_refs.proofs.culling.keep_pair.Given as goal

abbrev pub ghost-word_now : goal.ghost-word_now
ghost-word_now g a = g.a
