use Rattle.collect_pass.specs.Tracing.{end_state}
use Rattle.collect_pass.proofs.pass.run_pass.Given as goal

abbrev pub ghost-find_pins : goal.ghost-find_pins
ghost-find_pins g a = g.h.heap

abbrev pub ghost-trace : goal.ghost-trace
ghost-trace g a = g.h

abbrev pub ghost-sweep : goal.ghost-sweep
ghost-sweep g a = record {
  heap = g.h.heap;
  state = end_state g.h.heap a.space.now a.pages.now a.traced.now.marks.now a.traced.now.pins.now.listed a.traced.now.pass a.traced.now.moves.now;
}
