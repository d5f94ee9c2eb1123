use Rattle.std.proofs.Common.{◌<◌, ◌^◌, List, length, sym, subst, rules}
use Rattle.heap_terms.specs.declared.events.Event.{Event}
use Rattle.replay_core.proofs.Laws.{history_most}
use Rattle.replay_core.proofs.rounds.keep_turn.Goals as goal

pub overflow_cast-events : goal.overflow_cast-events
overflow_cast-events c =
    let w = c.world.result.now in
    let short : length c.history.result.now < 2 ^ 32 = subst (λ (h : List Event). length h < 2 ^ 32) (sym c.history.ensures.history)
    (history_most w.program w.history c.history.ensures.valid c.history.ensures.lawful) in
    search (rules, short)
