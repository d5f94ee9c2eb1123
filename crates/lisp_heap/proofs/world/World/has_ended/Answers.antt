-- A thread's state tells whether it has ended.
use Rattle.std.proofs.Common.{◌≡◌, arith, subst, ap}
use Rattle.heap_terms.specs.Heap.{thread_at}
use Rattle.lisp_heap.specs.View.{View, heap_of}
use Rattle.lisp_heap.specs.declared.states.ThreadState.{ThreadState}
use Rattle.lisp_heap.proofs.Soundness.{states_length}
use Rattle.lisp_heap.proofs.WordReading.{thread_in, state_is}
use Rattle.lisp_heap.proofs.world.World.has_ended.Goals as goal

pub at-requires : goal.at-requires
at-requires c = omega (arith, thread_in c.self.inside c.args.self.now c.self.view_is c.args.t c.requires, states_length c.self.inside c.self.invariant)

pub returns : goal.returns
returns c =
    let lt = thread_in c.self.inside c.args.self.now c.self.view_is c.args.t c.requires in
    let state = state_is c.self.inside c.self.invariant c.args.t c.at.result lt c.at.ensures in
    subst (λ (w : View). c.at.result.ended ≡ (thread_at (heap_of w) c.args.t).ended) c.self.view_is (ap (λ (x : ThreadState). x.ended) state)
