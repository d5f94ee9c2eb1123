use Rattle.std.proofs.Common.{refl}
use Rattle.std.proofs.lemmas.Result.{on_ok_weaker}
use Rattle.heap_terms.specs.declared.phases.Phase.TheVariants.{Inside}
use Rattle.heap_terms.specs.declared.phases.Task.TheVariants.{Happen}
use Rattle.replay_core.specs.Stepping.{EventDone}
use Rattle.replay_core.proofs.Turning.{event_turn, task_of}
use Rattle.replay_core.proofs.machine.Machine.happens_inside.Goals as goal

pub returns-clause-ok : goal.returns-clause-ok
returns-clause-ok c =
    let m = c.args.self.now in
    let task = task_of m c.args.t Inside Happen c.requires.inside refl in
    on_ok_weaker c.inside.result (λ (d : EventDone c.args.t m c.inside.new.self). record {
      lines = _;
      done = event_turn m c.inside.new.self c.args.t task d;
    }) c.inside.ensures.ok
