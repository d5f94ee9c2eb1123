use Rattle.weak_refs.proofs.releasing.ready_in.Given as goal

abbrev pub ghost-ready_one : goal.ghost-ready_one
ghost-ready_one g a = g.a
