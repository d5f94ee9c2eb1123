use Rattle.weak_refs.proofs.releasing.ready_side.Given as goal

abbrev pub ghost-ready_in : goal.ghost-ready_in
ghost-ready_in g a = g.a
