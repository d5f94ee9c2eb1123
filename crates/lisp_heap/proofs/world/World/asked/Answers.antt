-- `gc`: the thread owes the greater generation.
use Rattle.std.proofs.Common.{arith, ap, ◌∙◌}
use Rattle.heap_terms.specs.Heap.{thread_at}
use Rattle.lisp_heap.specs.View.{View, heap_of}
use Rattle.lisp_heap.specs.declared.states.ThreadState.{ThreadState}
use Rattle.lisp_heap.proofs.Plans.{asked_is}
use Rattle.lisp_heap.proofs.Soundness.{states_length}
use Rattle.lisp_heap.proofs.WordReading.{thread_in, state_is}
use Rattle.lisp_heap.proofs.world.World.asked.Goals as goal

pub at-requires : goal.at-requires
at-requires c =
    omega (arith, thread_in c.self.inside c.args.self.now c.self.view_is c.args.t c.requires, states_length c.self.inside c.self.invariant)

pub returns : goal.returns
returns c =
    let s = c.self.inside in
    let lt = thread_in s c.args.self.now c.self.view_is c.args.t c.requires in
    let is = state_is s c.self.invariant c.args.t c.at.result lt c.at.ensures in
    asked_is (heap_of c.args.self.now) c.args.t c.args.g c.greater-last.result c.at.result.owed
    (ap (λ (x : ThreadState). x.owed) is ∙ ap (λ (w : View). (thread_at (heap_of w) c.args.t).owed) c.self.view_is) c.greater-last.ensures
