use Rattle.weak_refs.proofs.breaking.break_at.Given as goal

abbrev pub ghost-break_pointer : goal.ghost-break_pointer
ghost-break_pointer g a = g.a
