use Rattle.std.proofs.Common.{◌≡◌, ◌++◌, map, take, drop}
use Rattle.lisp_heap.specs.State.{state_closed}
use Rattle.lisp_heap.proofs.states.close_all.Given as goal

abbrev pub invariant-loop-state : goal.invariant-loop-state
invariant-loop-state l = l.states ≡ map state_closed (take l.state-index l.initial.states) ++ drop l.state-index l.initial.states
