use Rattle.weak_refs.proofs.readying.ready_pair.Given as goal

abbrev pub ghost-settle_side : goal.ghost-settle_side
ghost-settle_side g a = g.a

abbrev pub ghost-follow : goal.ghost-follow
ghost-follow g a = g.a
