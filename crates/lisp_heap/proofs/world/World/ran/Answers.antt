-- `runfin` answers that there is nothing, or the queue.
use Rattle.std.proofs.Common.{◌≡◌, length, subst, sym, ◌∙◌, arith}
use Rattle.heap_terms.specs.declared.answers.Answer.TheVariants as answers
use Rattle.heap_terms.specs.declared.commands.Command.{Command}
use Rattle.lisp_heap.specs.FinalizerPlan.{IsFinalizerPlan, without_queue}
use Rattle.lisp_heap.specs.Plan.{IsPlan}
use Rattle.lisp_heap.specs.View.{heap_of}
use Rattle.lisp_heap.specs.declared.plan.Change.TheVariants as changes
use Rattle.lisp_heap.proofs.FinalizerPlans.{run_in, run_none_in}
use Rattle.lisp_heap.proofs.world.World.ran.Goals as goal

pub carry_out-requires-clause-plan : goal.carry_out-requires-clause-plan
carry_out-requires-clause-plan c =
    let w = c.args.self.now in
    subst (λ (x : Command). IsPlan (heap_of w) c.args.t x answers.Absent changes.Nothing) (sym c.requires.is)
    (run_none_in c.self.inside w c.self.invariant c.self.view_is c.args.t (sym c.queue_len.ensures ∙ c.if-queue_len-eq0.true))

pub run_queue-requires-clause-plan : goal.run_queue-requires-clause-plan
run_queue-requires-clause-plan c =
    let w = c.args.self.now in
    subst (λ (x : Command). IsFinalizerPlan (heap_of w) c.args.t x (answers.Ran w.parts.finalizers.queue) (without_queue w.parts.finalizers)) (sym c.requires.is)
    (run_in c.self.inside w c.self.invariant c.self.view_is c.args.t (λ e. c.if-queue_len-eq0.false (c.queue_len.ensures ∙ e)))
