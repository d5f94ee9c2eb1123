use Rattle.weak_refs.proofs.readying.settle_side.Given as goal

abbrev pub ghost-is_placed : goal.ghost-is_placed
ghost-is_placed g a = g.a

abbrev pub ghost-settle_fresh : goal.ghost-settle_fresh
ghost-settle_fresh g a = g.a
