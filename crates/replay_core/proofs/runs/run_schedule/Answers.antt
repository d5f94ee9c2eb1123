use Rattle.std.proofs.Common.{List, [], Option, Some, subst}
use Rattle.heap_terms.specs.declared.steps.ReplayLine.{ReplayLine}
use Rattle.replay_core.specs.Runs.{RunsWhole}
use Rattle.heap_laws.proofs.EventSteps.{limited}
use Rattle.machine_laws.proofs.Complete.{run_complete}
use Rattle.replay_core.proofs.Whole.{kept_run, whole_run}
use Rattle.replay_core.proofs.runs.run_schedule.Goals as goal

pub returns-in-Some-clause-run : goal.returns-in-Some-clause-run
returns-in-Some-clause-run c =
    let a = c.in_ok-machine.machine in
    let b = c.run-ran.new.machine in
    let from : RunsWhole a b (Some []) c.run-ran.new.kept = subst (λ (ls : List ReplayLine). RunsWhole a b (Some ls) c.run-ran.new.kept) c.new-2.ensures c.in_ok-ran.ensures in
    let run : RunsWhole a b (Some []) (Some c.in-Some.lines) = subst (λ (k : Option (List ReplayLine)). RunsWhole a b (Some []) k) c.in-Some.is from in
    kept_run c.args.program a b c.into_world-world.result c.in-Some.lines c.in_ok-machine.ensures.program c.in_ok-machine.ensures.start run c.into_world-world.ensures

pub returns-in-Some-clause-complete : goal.returns-in-Some-clause-complete
returns-in-Some-clause-complete c =
    let a = c.in_ok-machine.machine in
    let b = c.run-ran.new.machine in
    let from : RunsWhole a b (Some []) c.run-ran.new.kept = subst (λ (ls : List ReplayLine). RunsWhole a b (Some ls) c.run-ran.new.kept) c.new-2.ensures c.in_ok-ran.ensures in
    let run = whole_run c.args.program a b c.into_world-world.result (Some []) c.run-ran.new.kept c.in_ok-machine.ensures.program c.in_ok-machine.ensures.start from c.into_world-world.ensures in
    run_complete c.args.program from.turned.lines c.into_world-world.result.history (limited c.args.program c.requires) c.requires.schedule run
