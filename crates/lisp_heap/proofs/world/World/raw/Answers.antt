-- The word in a raw cell is the thread's.
use Rattle.std.proofs.Common.{◌≡◌, subst, ◌∙◌}
use Rattle.heap_terms.specs.RawCells.{raw_value}
use Rattle.lisp_heap.specs.View.{View, heap_of}
use Rattle.lisp_heap.proofs.Soundness.{cells_room}
use Rattle.lisp_heap.proofs.WordReading.{thread_in, raw_is}
use Rattle.lisp_heap.proofs.world.World.raw.Goals as goal

pub raw-requires-clause-room : goal.raw-requires-clause-room
raw-requires-clause-room c = cells_room c.self.inside c.args.t c.self.invariant (thread_in c.self.inside c.args.self.now c.self.view_is c.args.t c.requires.thread)

pub returns : goal.returns
returns c =
    let lt = thread_in c.self.inside c.args.self.now c.self.view_is c.args.t c.requires.thread in
    subst (λ (w : View). c.raw.result ≡ raw_value (heap_of w) c.args.t c.args.r) c.self.view_is
    (c.raw.ensures ∙ raw_is c.self.inside c.self.invariant c.args.t c.args.r lt c.requires.cell)
