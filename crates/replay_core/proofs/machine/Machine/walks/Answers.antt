use Rattle.heap_terms.specs.declared.phases.Task.TheVariants.{Walk}
use Rattle.heap_terms.specs.MachineTurns.{step_lines}
use Rattle.replay_core.proofs.Turning.{step_turn, task_of}
use Rattle.replay_core.proofs.machine.Machine.walks.Goals as goal

pub returns : goal.returns
returns c =
    let m = c.args.self.now in
    let task = task_of m c.args.t c.args.phase (Walk c.args.step) c.requires.phase c.requires.task in
    record {
      lines = step_lines c.args.t c.args.step c.walk-answer.result;
      done = step_turn m c.walk-answer.new.self c.args.t c.args.step c.walk-answer.result task c.walk-answer.ensures;
    }
