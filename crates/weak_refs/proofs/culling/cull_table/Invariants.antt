use Rattle.weak_refs.proofs.culling.cull_table.Given as goal

abbrev pub ghost-place_before : goal.ghost-place_before
ghost-place_before g a = g.a

abbrev pub ghost-pair_count : goal.ghost-pair_count
ghost-pair_count g a = g.a

abbrev pub ghost-keep_pairs : goal.ghost-keep_pairs
ghost-keep_pairs g a = g.a

abbrev pub ghost-clear : goal.ghost-clear
ghost-clear g a = g.a
