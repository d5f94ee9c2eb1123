-- `gcok`: the count falls, or is 0.
use Rattle.std.proofs.Common.{arith, subst, sym, ap, ◌∙◌}
use Rattle.heap_terms.specs.declared.commands.Command.TheVariants as commands
use Rattle.heap_terms.specs.Heap.{thread_at}
use Rattle.lisp_heap.specs.Plan.{IsPlan}
use Rattle.lisp_heap.specs.View.{View, heap_of}
use Rattle.lisp_heap.specs.declared.plan.Plan.{Plan}
use Rattle.lisp_heap.specs.declared.states.ThreadState.{ThreadState}
use Rattle.lisp_heap.proofs.Plans.{allowed_none, allowed_is}
use Rattle.lisp_heap.proofs.Soundness.{states_length}
use Rattle.lisp_heap.proofs.WordReading.{thread_in, state_is}
use Rattle.lisp_heap.proofs.world.World.allowed.Goals as goal

pub at-count-requires : goal.at-count-requires
at-count-requires c =
    omega (arith, thread_in c.self.inside c.args.self.now c.self.view_is c.args.t c.requires, states_length c.self.inside c.self.invariant)

pub returns-then-count-eq0 : goal.returns-then-count-eq0
returns-then-count-eq0 c =
    let s = c.self.inside in
    let lt = thread_in s c.args.self.now c.self.view_is c.args.t c.requires in
    let is = state_is s c.self.invariant c.args.t c.at-count.result lt c.at-count.ensures in
    let count = ap (λ (x : ThreadState). x.inhibits) is ∙ ap (λ (w : View). (thread_at (heap_of w) c.args.t).inhibits) c.self.view_is in
    subst (λ (o : Plan). IsPlan (heap_of c.args.self.now) c.args.t commands.Allow o.answer o.change) (sym c.refused.ensures)
    (allowed_none (heap_of c.args.self.now) c.args.t (sym count ∙ c.if-count-eq0.true))

pub returns : goal.returns
returns c =
    let s = c.self.inside in
    let lt = thread_in s c.args.self.now c.self.view_is c.args.t c.requires in
    let is = state_is s c.self.invariant c.args.t c.at-count.result lt c.at-count.ensures in
    allowed_is (heap_of c.args.self.now) c.args.t c.at-count.result.inhibits
    (ap (λ (x : ThreadState). x.inhibits) is ∙ ap (λ (w : View). (thread_at (heap_of w) c.args.t).inhibits) c.self.view_is) c.if-count-eq0.false
