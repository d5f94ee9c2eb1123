use Rattle.weak_refs.proofs.tests.finish.Given as goal

abbrev pub ghost-new : goal.ghost-new
ghost-new g a = g.a

abbrev pub ghost-ready_entries : goal.ghost-ready_entries
ghost-ready_entries g a = g.a

abbrev pub ghost-cull : goal.ghost-cull
ghost-cull g a = g.a

abbrev pub ghost-break_dead : goal.ghost-break_dead
ghost-break_dead g a = g.a
