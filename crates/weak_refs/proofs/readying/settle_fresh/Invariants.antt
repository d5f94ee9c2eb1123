use Rattle.weak_refs.proofs.readying.settle_fresh.Given as goal

abbrev pub ghost-evacuate : goal.ghost-evacuate
ghost-evacuate g a = g.a
