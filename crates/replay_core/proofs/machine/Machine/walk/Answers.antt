use Rattle.std.proofs.Common.{subst}
use Rattle.heap_terms.specs.declared.phases.Task.TheVariants.{Walk}
use Rattle.machine_laws.proofs.Steps.{may_step}
use Rattle.replay_core.specs.MachineSound.{view_of}
use Rattle.replay_core.specs.MachineView.{MachineView, configuration_of}
use Rattle.replay_core.specs.Stepping.{StepDone}
use Rattle.replay_core.proofs.Asking.{asked}
use Rattle.replay_core.proofs.Turning.{seen, step_done, walk_orderly}
use Rattle.replay_core.proofs.machine.Machine.walk.Goals as goal

pub word_step-answer-requires-clause-may : goal.word_step-answer-requires-clause-may
word_step-answer-requires-clause-may c =
    let s = c.self.inside in
    let a = asked s c.args.self.now c.args.t c.args.phase (Walk c.args.step) c.self.view_is c.requires.thread c.requires.phase c.requires.task in
    may_step s.world.program c.args.t c.args.step (configuration_of (view_of s)) c.self.invariant.orderly a.thread a.is

pub invariant_of-self : goal.invariant_of-self
invariant_of-self c =
    let s = c.self.inside in
    let a = asked s c.args.self.now c.args.t c.args.phase (Walk c.args.step) c.self.view_is c.requires.thread c.requires.phase c.requires.task in
    let state = c.word_step-answer.new.state in
    let done : StepDone c.args.t c.args.step (view_of s) (seen s.world state.turn state.words c.set.new.self) c.word_step-answer.result =
    step_done s.world s.stops.turn state.turn s.stops.words state.words s.phases c.set.new.self c.args.t c.threads-threads.result c.args.step c.args.phase
    c.after_step-after.result c.is_due-due.result c.has_ended-over.result c.has_gone.result c.word_step-answer.result
    c.threads-threads.ensures a.phase c.is_due-due.ensures c.has_ended-over.ensures c.word_step-answer.ensures.words c.word_step-answer.ensures.answer
    c.has_gone.ensures c.after_step-after.ensures c.set.ensures in
    record {
      valid = c.self.invariant.valid;
      ready = c.self.invariant.ready;
      orderly = walk_orderly (view_of s) (seen s.world state.turn state.words c.set.new.self) c.args.t c.args.step c.word_step-answer.result
          c.self.invariant.valid c.self.invariant.orderly a.thread a.is done;
    }

pub returns : goal.returns
returns c =
    let s = c.self.inside in
    let a = asked s c.args.self.now c.args.t c.args.phase (Walk c.args.step) c.self.view_is c.requires.thread c.requires.phase c.requires.task in
    let state = c.word_step-answer.new.state in
    subst (λ (m : MachineView). StepDone c.args.t c.args.step m (seen s.world state.turn state.words c.set.new.self) c.word_step-answer.result) c.self.view_is
    (step_done s.world s.stops.turn state.turn s.stops.words state.words s.phases c.set.new.self c.args.t c.threads-threads.result c.args.step c.args.phase
    c.after_step-after.result c.is_due-due.result c.has_ended-over.result c.has_gone.result c.word_step-answer.result
    c.threads-threads.ensures a.phase c.is_due-due.ensures c.has_ended-over.ensures c.word_step-answer.ensures.words c.word_step-answer.ensures.answer
    c.has_gone.ensures c.after_step-after.ensures c.set.ensures)
