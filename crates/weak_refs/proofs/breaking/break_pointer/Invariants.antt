use Rattle.weak_refs.proofs.breaking.break_pointer.Given as goal

abbrev pub ghost-word_now : goal.ghost-word_now
ghost-word_now g a = g.a

abbrev pub ghost-place_before : goal.ghost-place_before
ghost-place_before g a = g.a
