-- `pin`: the word of a cell goes on the pins, if there is room.
use Rattle.std.proofs.Common.{arith, subst, sym}
use Rattle.heap_terms.specs.declared.commands.Command.TheVariants as commands
use Rattle.lisp_heap.specs.Plan.{IsPlan}
use Rattle.lisp_heap.specs.View.{heap_of}
use Rattle.lisp_heap.specs.declared.plan.Plan.{Plan}
use Rattle.lisp_heap.proofs.Plans.{pinned_none, pinned_is}
use Rattle.lisp_heap.proofs.Soundness.{pins_length, pins_in}
use Rattle.lisp_heap.proofs.WordReading.{thread_in}
use Rattle.lisp_heap.proofs.world.World.pinned.Goals as goal

pub at-pins-requires : goal.at-pins-requires
at-pins-requires c =
    omega (arith, thread_in c.self.inside c.args.self.now c.self.view_is c.args.t c.requires.thread, pins_length c.self.inside c.self.invariant)

pub returns-then-pins : goal.returns-then-pins
returns-then-pins c =
    subst (λ (o : Plan). IsPlan (heap_of c.args.self.now) c.args.t (commands.Pin c.args.c) o.answer o.change) (sym c.refused.ensures)
    (pinned_none (heap_of c.args.self.now) c.args.t c.args.c c.at-pins.result.now
    (pins_in c.self.inside c.args.self.now c.self.invariant c.self.view_is c.args.t c.at-pins.result.now c.requires.thread c.at-pins.ensures.words) (omega arith))

pub returns : goal.returns
returns c = pinned_is (heap_of c.args.self.now) c.args.t c.args.c c.cell.result c.at-pins.result.now
    (pins_in c.self.inside c.args.self.now c.self.invariant c.self.view_is c.args.t c.at-pins.result.now c.requires.thread c.at-pins.ensures.words) (omega arith) c.cell.ensures
