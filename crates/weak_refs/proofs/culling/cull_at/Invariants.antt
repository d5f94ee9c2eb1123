use Rattle.weak_refs.proofs.culling.cull_at.Given as goal

abbrev pub ghost-cull_table : goal.ghost-cull_table
ghost-cull_table g a = g.a
