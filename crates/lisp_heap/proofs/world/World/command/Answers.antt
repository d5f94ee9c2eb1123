-- The command at a thread's place is read from its script.
use Rattle.std.proofs.Common.{◌≡◌, arith, subst, Some, None}
use Rattle.heap_terms.specs.Histories.{command_at}
use Rattle.lisp_heap.specs.View.{View, heap_of}
use Rattle.lisp_heap.proofs.Soundness.{states_length}
use Rattle.lisp_heap.proofs.WordReading.{thread_in, command_is, no_command}
use Rattle.lisp_heap.proofs.world.World.command.Goals as goal

pub at-done-requires : goal.at-done-requires
at-done-requires c = omega (arith, thread_in c.self.inside c.args.self.now c.self.view_is c.args.t c.requires, states_length c.self.inside c.self.invariant)

pub returns-then-done-len : goal.returns-then-done-len
returns-then-done-len c =
    let lt = thread_in c.self.inside c.args.self.now c.self.view_is c.args.t c.requires in
    subst (λ (w : View). Some c.at.result ≡ command_at w.program (heap_of w) c.args.t) c.self.view_is
    (command_is c.self.inside c.self.invariant c.args.t c.at-done.result c.item-script.result.now c.at.result lt
    c.at-done.ensures c.item-script.ensures (omega (arith, c.if-done-len.true, c.len.ensures)) c.at.ensures)

pub returns-else-done-len : goal.returns-else-done-len
returns-else-done-len c =
    let lt = thread_in c.self.inside c.args.self.now c.self.view_is c.args.t c.requires in
    subst (λ (w : View). None ≡ command_at w.program (heap_of w) c.args.t) c.self.view_is
    (no_command c.self.inside c.self.invariant c.args.t c.at-done.result c.item-script.result.now lt
    c.at-done.ensures c.item-script.ensures (omega (arith, c.if-done-len.false, c.len.ensures)))
