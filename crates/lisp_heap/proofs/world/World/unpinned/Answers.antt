-- `unpin`: the latest pin is taken off, or there is none.
use Rattle.std.proofs.Common.{length, arith, subst, sym}
use Rattle.std.proofs.lemmas.Bool.{eqb-true, eqb-false}
use Rattle.heap_terms.specs.declared.commands.Command.TheVariants as commands
use Rattle.lisp_heap.specs.Plan.{IsPlan}
use Rattle.lisp_heap.specs.View.{heap_of}
use Rattle.lisp_heap.specs.declared.plan.Plan.{Plan}
use Rattle.lisp_heap.proofs.Plans.{unpinned_none, unpinned_is}
use Rattle.lisp_heap.proofs.Soundness.{pins_length, pins_in}
use Rattle.lisp_heap.proofs.WordReading.{thread_in}
use Rattle.lisp_heap.proofs.world.World.unpinned.Goals as goal

pub at-pins-requires : goal.at-pins-requires
at-pins-requires c =
    omega (arith, thread_in c.self.inside c.args.self.now c.self.view_is c.args.t c.requires, pins_length c.self.inside c.self.invariant)

pub returns-then-is_empty : goal.returns-then-is_empty
returns-then-is_empty c =
    subst (λ (o : Plan). IsPlan (heap_of c.args.self.now) c.args.t commands.Unpin o.answer o.change) (sym c.refused.ensures)
    (unpinned_none (heap_of c.args.self.now) c.args.t c.at-pins.result.now
    (pins_in c.self.inside c.args.self.now c.self.invariant c.self.view_is c.args.t c.at-pins.result.now c.requires c.at-pins.ensures.words) (eqb-true (length c.at-pins.result.now) 0 (sym c.if-is_empty.ensures)))

pub returns : goal.returns
returns c = unpinned_is (heap_of c.args.self.now) c.args.t c.at-pins.result.now
    (pins_in c.self.inside c.args.self.now c.self.invariant c.self.view_is c.args.t c.at-pins.result.now c.requires c.at-pins.ensures.words) (eqb-false (length c.at-pins.result.now) 0 (sym c.if-is_empty.ensures))
