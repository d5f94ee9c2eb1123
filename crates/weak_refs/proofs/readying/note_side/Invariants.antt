use Rattle.weak_refs.proofs.readying.note_side.Given as goal

abbrev pub ghost-is_placed : goal.ghost-is_placed
ghost-is_placed g a = g.a
