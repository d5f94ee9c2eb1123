-- The states so far are closed, and the rest are as they were.
use Rattle.std.proofs.Common.{◌<◌, length, arith, ap, ◌∙◌, get_or, set}
use Rattle.std.proofs.lemmas.List.{get_or_default}
use Rattle.std.proofs.lemmas.List.Edits.{map_over_more}
use Rattle.lisp_heap.specs.State.{fresh_state, state_closed}
use Rattle.lisp_heap.proofs.states.close_all.Goals as goal

pub loop-state-preserved : goal.loop-state-preserved
loop-state-preserved c =
    let i = c.loop-state.state-index in
    let there : i < length c.loop-state.states = omega arith in
    let x = get_or c.loop-state.states i fresh_state in
    ap (set c.loop-state.states i) c.closed.ensures
    ∙ map_over_more state_closed c.args.states.now c.loop-state.states i x c.loop-state-test.true c.loop-state.invariant
    (get_or_default c.loop-state.states i fresh_state x there)
