-- Two values are the same just where their words are.
use Rattle.std.proofs.Common.{true, false, sym, ◌∙◌}
use Rattle.heap_terms.specs.Cells.{cell_value}
use Rattle.lisp_heap.specs.View.{heap_of}
use Rattle.lisp_heap.proofs.Plans.{compared_is}
use Rattle.lisp_heap.proofs.Referring.{told_by_words}
use Rattle.lisp_heap.proofs.WordReading.{cell_lives}
use Rattle.lisp_heap.proofs.world.World.compared.Goals as goal
use Rattle.lisp_heap.proofs.world.World.compared.Goals.{then-same, else-same}

pub returns : goal.returns
returns c =
    let a = heap_of c.args.self.now in
    let x = cell_value a c.args.t c.args.a in
    let y = cell_value a c.args.t c.args.b in
    let told = told_by_words c.self.inside c.args.self.now c.self.invariant c.self.view_is x y
    (cell_lives c.self.inside c.args.self.now c.self.invariant c.self.view_is c.args.t c.args.a c.requires.thread)
    (cell_lives c.self.inside c.args.self.now c.self.invariant c.self.view_is c.args.t c.args.b c.requires.thread) in
    elim c.if-same.branch [
      | then-same w ↦ compared_is a c.args.t c.args.a c.args.b true c.if-same.result (told.0 (sym c.cell.ensures ∙ w.if-same.true ∙ c.cell-2.ensures)) w.result-is
      | else-same w ↦ compared_is a c.args.t c.args.a c.args.b false c.if-same.result (told.1 (λ e. w.if-same.false (c.cell.ensures ∙ e ∙ sym c.cell-2.ensures))) w.result-is
    ]
