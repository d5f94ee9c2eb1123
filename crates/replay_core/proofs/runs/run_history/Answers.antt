use Rattle.std.proofs.Common.{None}
use Rattle.heap_laws.proofs.EventSteps.{limited}
use Rattle.machine_laws.proofs.Complete.{run_complete}
use Rattle.replay_core.proofs.Whole.{some_run}
use Rattle.replay_core.proofs.runs.run_history.Goals as goal

pub returns-clause-run : goal.returns-clause-run
returns-clause-run c =
    some_run c.args.program c.in_ok-machine.machine c.run-ran.new.machine c.into_world-world.result None c.run-ran.new.kept
    c.in_ok-machine.ensures.program c.in_ok-machine.ensures.start c.in_ok-ran.ensures c.into_world-world.ensures

pub returns-clause-complete : goal.returns-clause-complete
returns-clause-complete c =
    let to = some_run c.args.program c.in_ok-machine.machine c.run-ran.new.machine c.into_world-world.result None c.run-ran.new.kept
    c.in_ok-machine.ensures.program c.in_ok-machine.ensures.start c.in_ok-ran.ensures c.into_world-world.ensures in
    run_complete c.args.program to.lines c.into_world-world.result.history (limited c.args.program c.requires) c.requires.schedule to.run
