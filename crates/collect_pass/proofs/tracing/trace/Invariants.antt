use Rattle.collect_pass.proofs.tracing.trace.Given as goal

abbrev pub ghost-trace_live : goal.ghost-trace_live
ghost-trace_live g a = g.h
