use Rattle.weak_refs.proofs.releasing.ready_one.Given as goal

abbrev pub ghost-pair_count : goal.ghost-pair_count
ghost-pair_count g a = g.a

abbrev pub ghost-ready_pair : goal.ghost-ready_pair
ghost-ready_pair g a = g.a
