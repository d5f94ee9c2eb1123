-- `show` answers the cell's value.
use Rattle.heap_terms.specs.Cells.{cell_value}
use Rattle.lisp_heap.specs.View.{heap_of}
use Rattle.lisp_heap.proofs.Plans.{shown_is}
use Rattle.lisp_heap.proofs.WordReading.{cell_lives, cell_word_of}
use Rattle.lisp_heap.proofs.world.World.shown.Goals as goal

pub value_of-requires : goal.value_of-requires
value_of-requires c =
    cell_word_of c.self.inside c.args.self.now c.self.invariant c.self.view_is c.args.t c.args.c c.cell-word.result c.requires.thread c.cell-word.ensures

pub returns : goal.returns
returns c =
    let living = cell_lives c.self.inside c.args.self.now c.self.invariant c.self.view_is c.args.t c.args.c c.requires.thread in
    shown_is (heap_of c.args.self.now) c.args.t c.args.c c.value_of.result
    (c.value_of.ensures (cell_value (heap_of c.args.self.now) c.args.t c.args.c) living c.cell-word.ensures)
