use Rattle.weak_refs.proofs.readying.ready_at.Given as goal

abbrev pub ghost-ready_table : goal.ghost-ready_table
ghost-ready_table g a = g.a
