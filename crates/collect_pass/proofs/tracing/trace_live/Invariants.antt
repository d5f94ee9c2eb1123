use Rattle.collect_pass.proofs.tracing.trace_live.Given as goal

abbrev pub ghost-new : goal.ghost-new
ghost-new g a = g.h.heap

abbrev pub ghost-evacuate_roots : goal.ghost-evacuate_roots
ghost-evacuate_roots g a = g.h

abbrev pub ghost-scavenge_older : goal.ghost-scavenge_older
ghost-scavenge_older g a = g.h.heap

abbrev pub ghost-settle_all : goal.ghost-settle_all
ghost-settle_all g a = g.h.heap

abbrev pub ghost-cull : goal.ghost-cull
ghost-cull g a = g.h.heap

abbrev pub ghost-break_dead : goal.ghost-break_dead
ghost-break_dead g a = g.h.heap

abbrev pub ghost-sweep : goal.ghost-sweep
ghost-sweep g a = g.h.heap
