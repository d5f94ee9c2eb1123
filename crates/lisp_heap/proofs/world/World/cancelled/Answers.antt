-- `cancel` needs a reference.
use Rattle.std.proofs.Common.{subst, sym}
use Rattle.heap_terms.specs.declared.answers.Answer.TheVariants as answers
use Rattle.heap_terms.specs.declared.commands.Command.{Command}
use Rattle.heap_terms.specs.Cells.{cell_value}
use Rattle.lisp_heap.specs.FinalizerPlan.{IsFinalizerPlan, count_for, without}
use Rattle.lisp_heap.specs.Plan.{IsPlan}
use Rattle.lisp_heap.specs.View.{heap_of}
use Rattle.lisp_heap.specs.declared.plan.Plan.{Plan}
use Rattle.lisp_heap.proofs.FinalizerPlans.{cancel_refused, cancel_in}
use Rattle.lisp_heap.proofs.WordReading.{cell_lives, cell_word_of}
use Rattle.lisp_heap.proofs.world.World.cancelled.Goals as goal

pub referent-requires : goal.referent-requires
referent-requires c = cell_word_of c.self.inside c.args.self.now c.self.invariant c.self.view_is c.args.t c.args.c c.cell-word.result c.requires.thread c.cell-word.ensures

pub cancel_all-requires-clause-plan : goal.cancel_all-requires-clause-plan
cancel_all-requires-clause-plan c =
    let w = c.args.self.now in
    let living = cell_lives c.self.inside w c.self.invariant c.self.view_is c.args.t c.args.c c.requires.thread in
    let found = c.in-Some.ensures (cell_value (heap_of w) c.args.t c.args.c) living c.cell-word.ensures in
    subst (λ (x : Command). IsFinalizerPlan (heap_of w) c.args.t x (answers.Count (count_for w.parts.finalizers c.cell-word.result)) (without w.parts.finalizers c.cell-word.result)) (sym c.requires.is)
    (cancel_in c.self.inside w c.self.invariant c.self.view_is c.args.t c.args.c c.cell-word.result found.1 c.cell-word.ensures)

pub carry_out-requires-clause-plan : goal.carry_out-requires-clause-plan
carry_out-requires-clause-plan c =
    let w = c.args.self.now in
    let living = cell_lives c.self.inside w c.self.invariant c.self.view_is c.args.t c.args.c c.requires.thread in
    let none = c.in-None.ensures (cell_value (heap_of w) c.args.t c.args.c) living c.cell-word.ensures in
    subst (λ (o : Plan). IsPlan (heap_of w) c.args.t c.args.command o.answer o.change) (sym c.refused-plan.ensures)
    (subst (λ (x : Command). IsPlan (heap_of w) c.args.t x _ _) (sym c.requires.is) (cancel_refused (heap_of w) c.args.t c.args.c none))
