use Rattle.weak_refs.proofs.readying.follow.Given as goal

abbrev pub ghost-is_placed : goal.ghost-is_placed
ghost-is_placed g a = g.a

abbrev pub ghost-settle_side : goal.ghost-settle_side
ghost-settle_side g a = g.a
