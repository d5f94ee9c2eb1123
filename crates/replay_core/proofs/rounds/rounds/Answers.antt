use Rattle.std.proofs.Common.{◌+◌, ◌<◌, length, inl, inr, subst, sym, ◌∙◌, arith}
use Rattle.std.proofs.lemmas.Bool.{true≢false}
use Rattle.heap_terms.specs.declared.programs.Program.{Program}
use Rattle.heap_terms.specs.Runs.{AreTurns, rounds_of}
use Rattle.heap_laws.proofs.EventSteps.{limited}
use Rattle.machine_laws.specs.Measure.{measure}
use Rattle.machine_laws.specs.Orderly.{IsOrderly}
use Rattle.machine_laws.proofs.Complete.{rounds_named}
use Rattle.machine_laws.proofs.Rounds.{range_named, round_or_end, turns_never_rise, turns_orderly}
use Rattle.replay_core.specs.MachineView.{program_of, configuration_of}
use Rattle.replay_core.proofs.Many.{TurnedKept-round, TurnedKept-rounds}
use Rattle.replay_core.proofs.rounds.rounds.Goals as goal

pub loop-machine-smaller : goal.loop-machine-smaller
loop-machine-smaller c =
    let m = c.loop-machine.machine in
    let p = program_of m in
    let between = c.each_in_turn.new.machine in
    let new = c.more_rounds.new.machine in
    let limits = limited p c.has_ended.ensures.valid in
    let round = c.in_ok-each_in_turn.ensures in
    let more = c.in_ok-more_rounds.ensures in
    let less : measure p (configuration_of between) < measure p (configuration_of m) =
    elim (round_or_end p (configuration_of m) (configuration_of between) round.lines limits c.has_ended.ensures.orderly round.turned.turns) [
      | inl falls ↦ falls
      | inr ended ↦ absurd (true≢false (sym (c.has_ended.ensures.ended.1 ended) ∙ c.loop-machine-test.true))
    ] in
    let orderly : IsOrderly p (configuration_of between) =
    turns_orderly p _ (configuration_of m) (configuration_of between) round.lines limits c.has_ended.ensures.orderly (range_named p 0 (length p.threads) (omega arith)) round.turned.turns in
    let turns = subst (λ (q : Program). AreTurns q (rounds_of (length q.threads) more.rounds) (configuration_of between) more.turned.lines (configuration_of new))
    round.turned.program more.turned.turned.turns in
    let rest = turns_never_rise p (rounds_of (length p.threads) more.rounds) (configuration_of between) (configuration_of new) more.turned.lines limits orderly (rounds_named p more.rounds) turns in
    let both : measure p (configuration_of new) < measure p (configuration_of m) = omega arith in
    subst (λ (q : Program). measure q (configuration_of new) < measure p (configuration_of m)) (sym (more.turned.turned.program ∙ round.turned.program)) both

pub loop-machine-preserved : goal.loop-machine-preserved
loop-machine-preserved c =
    let k = c.loop-machine.invariant.0 in
    let one = TurnedKept-round k c.args.machine.now c.loop-machine.machine c.each_in_turn.new.machine c.args.kept.now c.loop-machine.kept c.each_in_turn.new.kept
    c.loop-machine.invariant.1 c.in_ok-each_in_turn.ensures in (
      k + 1 + c.in_ok-more_rounds.ensures.rounds,
      TurnedKept-rounds (k + 1) c.args.machine.now c.each_in_turn.new.machine c.more_rounds.new.machine c.args.kept.now c.each_in_turn.new.kept c.more_rounds.new.kept
          one c.in_ok-more_rounds.ensures,
    )
