-- The word in a cell is that of its value.
use Rattle.std.proofs.Common.{◌≡◌, subst, ◌∙◌}
use Rattle.heap_terms.specs.Cells.{cell_value}
use Rattle.heap_terms.specs.Spelling.{word_of}
use Rattle.lisp_heap.specs.View.{View, heap_of}
use Rattle.lisp_heap.proofs.Soundness.{cells_room}
use Rattle.lisp_heap.proofs.WordReading.{thread_in, cell_is}
use Rattle.lisp_heap.proofs.world.World.cell.Goals as goal

pub read-requires-clause-room : goal.read-requires-clause-room
read-requires-clause-room c = cells_room c.self.inside c.args.t c.self.invariant (thread_in c.self.inside c.args.self.now c.self.view_is c.args.t c.requires.thread)

pub returns : goal.returns
returns c =
    let lt = thread_in c.self.inside c.args.self.now c.self.view_is c.args.t c.requires.thread in
    subst (λ (w : View). c.read.result ≡ word_of (heap_of w).objects (cell_value (heap_of w) c.args.t c.args.cell)) c.self.view_is
    (c.read.ensures ∙ cell_is c.self.inside c.self.invariant c.args.t c.args.cell lt c.requires.cell)
