use Rattle.std.proofs.Common.{ap, ◌∙◌, arith}
use Rattle.std.specs.Option.{is_some}
use Rattle.heap_terms.specs.Phases.{collects}
use Rattle.lisp_heap.specs.View.{View, next_of}
use Rattle.lisp_heap.proofs.DueNext.{due_next}
use Rattle.lisp_heap.proofs.Soundness.{heap, states_length}
use Rattle.lisp_heap.proofs.WordReading.{thread_in, state_is}
use Rattle.lisp_heap.proofs.world.World.is_due.Goals as goal

pub at-state-requires : goal.at-state-requires
at-state-requires c = omega (arith, thread_in c.self.inside c.args.self.now c.self.view_is c.args.t c.requires, states_length c.self.inside c.self.invariant)

pub returns-then-not-state : goal.returns-then-not-state
returns-then-not-state c =
    let lt = thread_in c.self.inside c.args.self.now c.self.view_is c.args.t c.requires in
    let state = state_is c.self.inside c.self.invariant c.args.t c.at-state.result lt c.at-state.ensures in
    let is = due_next c.self.inside.program (heap c.self.inside) c.args.t c.at-state.result state in
    let going = c.if-not-state.true in
    c.is_some.ensures ∙ ap is_some c.due.ensures ∙ rw going at is
    ∙ ap (λ (w : View). collects (next_of w c.args.t)) c.self.view_is

pub returns-else-not-state : goal.returns-else-not-state
returns-else-not-state c =
    let lt = thread_in c.self.inside c.args.self.now c.self.view_is c.args.t c.requires in
    let state = state_is c.self.inside c.self.invariant c.args.t c.at-state.result lt c.at-state.ensures in
    let is = due_next c.self.inside.program (heap c.self.inside) c.args.t c.at-state.result state in
    let over = c.if-not-state.false in
    rw over (rw over at is ∙ ap (λ (w : View). collects (next_of w c.args.t)) c.self.view_is)
