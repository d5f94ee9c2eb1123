-- The command at a thread's place is read from its script.
use Rattle.std.proofs.Common.{◌≡◌, arith, subst, sym, Some, IsSome}
use Rattle.heap_terms.specs.Histories.{command_at}
use Rattle.lisp_heap.specs.View.{View, heap_of}
use Rattle.lisp_heap.proofs.Soundness.{states_length}
use Rattle.lisp_heap.proofs.WordReading.{thread_in, command_is, command_left}
use Rattle.lisp_heap.proofs.world.World.current.Goals as goal

pub at-requires : goal.at-requires
at-requires c = omega (arith, thread_in c.self.inside c.args.self.now c.self.view_is c.args.t c.requires.thread, states_length c.self.inside c.self.invariant)

pub at-requires-2 : goal.at-requires-2
at-requires-2 c =
    command_left c.self.inside c.self.invariant c.args.t c.at.result c.item.result.now
    (thread_in c.self.inside c.args.self.now c.self.view_is c.args.t c.requires.thread) c.at.ensures c.item.ensures
    (subst (λ (w : View). IsSome (command_at w.program (heap_of w) c.args.t)) (sym c.self.view_is) c.requires.there)

pub returns : goal.returns
returns c =
    let lt = thread_in c.self.inside c.args.self.now c.self.view_is c.args.t c.requires.thread in
    subst (λ (w : View). command_at w.program (heap_of w) c.args.t ≡ Some c.at-2.result) c.self.view_is
    (sym (command_is c.self.inside c.self.invariant c.args.t c.at.result c.item.result.now c.at-2.result lt
    c.at.ensures c.item.ensures
    (command_left c.self.inside c.self.invariant c.args.t c.at.result c.item.result.now lt c.at.ensures c.item.ensures
    (subst (λ (w : View). IsSome (command_at w.program (heap_of w) c.args.t)) (sym c.self.view_is) c.requires.there))
    c.at-2.ensures))
