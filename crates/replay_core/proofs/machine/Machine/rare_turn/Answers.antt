use Rattle.std.proofs.Common.{sym, ◌∙◌}
use Rattle.std.proofs.lemmas.Result.{on_ok_weaker}
use Rattle.heap_terms.specs.declared.phases.Task.TheVariants.{Walk, Happen}
use Rattle.heap_terms.specs.MachineTurns.{step_lines}
use Rattle.replay_core.specs.Stepping.{EventDone}
use Rattle.replay_core.proofs.Asking.{found_task}
use Rattle.replay_core.proofs.Turning.{step_turn, event_turn}
use Rattle.replay_core.proofs.machine.Machine.rare_turn.Goals as goal

pub returns-in-Walk-clause-ok : goal.returns-in-Walk-clause-ok
returns-in-Walk-clause-ok c =
    let task = found_task c.self.inside c.args.self.now c.args.t c.at-phase.result c.is_due.result (Walk c.in-Walk.step) c.self.view_is c.self.invariant c.requires
    c.at-phase.ensures c.is_due.ensures (sym c.task_for.ensures ∙ c.in-Walk.is) in
    record {
      lines = step_lines c.args.t c.in-Walk.step c.walk-answer.result;
      done = step_turn c.args.self.now c.walk-answer.new.self c.args.t c.in-Walk.step c.walk-answer.result task c.walk-answer.ensures;
    }

pub returns-in-Happen-clause-ok : goal.returns-in-Happen-clause-ok
returns-in-Happen-clause-ok c =
    let task = found_task c.self.inside c.args.self.now c.args.t c.at-phase.result c.is_due.result Happen c.self.view_is c.self.invariant c.requires
    c.at-phase.ensures c.is_due.ensures (sym c.task_for.ensures ∙ c.in-Happen.is) in
    on_ok_weaker c.happen.result (λ (d : EventDone c.args.t c.args.self.now c.happen.new.self). record {
      lines = _;
      done = event_turn c.args.self.now c.happen.new.self c.args.t task d;
    }) c.happen.ensures.ok
