use Rattle.std.proofs.Common.{ℕ, List, [], ◌∷◌, sym, subst}
use Rattle.std.specs.List.{range_with_len}
use Rattle.replay_core.specs.Runs.{TurnedKept}
use Rattle.replay_core.proofs.Many.{TurnedKept-append, range-more}
use Rattle.replay_core.proofs.rounds.each_in_turn.Goals as goal

pub loop-t-preserved : goal.loop-t-preserved
loop-t-preserved c =
    let t = c.loop-t.t in
    subst (λ (ts : List ℕ). TurnedKept ts c.args.machine.now c.turn.new.machine c.args.kept.now c.turn.new.kept) (sym (range-more t))
    (TurnedKept-append (range_with_len 0 t) (t ∷ []) c.args.machine.now c.loop-t.machine c.turn.new.machine c.args.kept.now c.loop-t.kept c.turn.new.kept
    c.loop-t.invariant c.in_ok-turn.ensures)
