-- `nogc`: the count has room for one more.
use Rattle.std.proofs.Common.{◌≡◌, arith, subst, sym, ap, ◌∙◌, Some}
use Rattle.heap_terms.specs.declared.commands.Command.TheVariants as commands
use Rattle.heap_terms.specs.Heap.{thread_at}
use Rattle.heap_terms.specs.Histories.{command_at}
use Rattle.lisp_heap.specs.View.{View, heap_of}
use Rattle.lisp_heap.specs.declared.states.ThreadState.{ThreadState}
use Rattle.lisp_heap.proofs.Plans.{inhibited_is}
use Rattle.lisp_heap.proofs.Soundness.{heap, states_length}
use Rattle.lisp_heap.proofs.Stepping.{inhibits_small}
use Rattle.lisp_heap.proofs.WordReading.{thread_in, state_is}
use Rattle.lisp_heap.proofs.world.World.inhibited.Goals as goal

pub at-count-requires : goal.at-count-requires
at-count-requires c =
    omega (arith, thread_in c.self.inside c.args.self.now c.self.view_is c.args.t c.requires.thread, states_length c.self.inside c.self.invariant)

pub overflow_add-result : goal.overflow_add-result
overflow_add-result c =
    let s = c.self.inside in
    let lt = thread_in s c.args.self.now c.self.view_is c.args.t c.requires.thread in
    let at : command_at s.program (heap s) c.args.t ≡ Some commands.Inhibit =
    subst (λ (w : View). command_at w.program (heap_of w) c.args.t ≡ Some commands.Inhibit) (sym c.self.view_is) c.requires.command in
    let is = state_is s c.self.invariant c.args.t c.at-count.result lt c.at-count.ensures in
    omega (arith, ap (λ (x : ThreadState). x.inhibits) is, inhibits_small s c.self.invariant c.args.t commands.Inhibit lt at)

pub returns : goal.returns
returns c =
    let s = c.self.inside in
    let lt = thread_in s c.args.self.now c.self.view_is c.args.t c.requires.thread in
    let is = state_is s c.self.invariant c.args.t c.at-count.result lt c.at-count.ensures in
    inhibited_is (heap_of c.args.self.now) c.args.t c.at-count.result.inhibits
    (ap (λ (x : ThreadState). x.inhibits) is ∙ ap (λ (w : View). (thread_at (heap_of w) c.args.t).inhibits) c.self.view_is)
