use Rattle.weak_refs.proofs.readying.note_pair.Given as goal

abbrev pub ghost-note_side : goal.ghost-note_side
ghost-note_side g a = g.a
