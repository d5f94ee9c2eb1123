use Rattle.weak_refs.proofs.readying.ready_entries.Given as goal

abbrev pub ghost-ready_waiting : goal.ghost-ready_waiting
ghost-ready_waiting g a = g.a

abbrev pub ghost-ready_all : goal.ghost-ready_all
ghost-ready_all g a = g.a
