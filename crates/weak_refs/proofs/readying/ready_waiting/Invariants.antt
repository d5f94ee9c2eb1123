use Rattle.weak_refs.proofs.readying.ready_waiting.Given as goal

abbrev pub ghost-ready_all : goal.ghost-ready_all
ghost-ready_all g a = g.a

abbrev pub ghost-release : goal.ghost-release
ghost-release g a = g.a
