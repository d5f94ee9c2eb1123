use Rattle.scavenge.proofs.tests.trace.Given as goal

abbrev pub ghost-new : goal.ghost-new
ghost-new g a = g.a

abbrev pub ghost-scavenge_older : goal.ghost-scavenge_older
ghost-scavenge_older g a = g.a

abbrev pub ghost-scavenge_all : goal.ghost-scavenge_all
ghost-scavenge_all g a = g.a
