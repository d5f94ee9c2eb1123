-- `put` writes a field.
use Rattle.std.proofs.Common.{◌+◌, arith, subst, sym}
use Rattle.heap_terms.specs.declared.commands.Command.TheVariants as commands
use Rattle.heap_terms.specs.Cells.{cell_value}
use Rattle.lisp_heap.specs.Plan.{IsPlan}
use Rattle.lisp_heap.specs.View.{heap_of}
use Rattle.lisp_heap.specs.declared.plan.Plan.{Plan}
use Rattle.lisp_heap.specs.declared.referents.Span.{Span}
use Rattle.lisp_heap.proofs.Plans.{fields_are, put_none, put_out, put_is}
use Rattle.lisp_heap.proofs.SlotChanges.{fields_payload}
use Rattle.lisp_heap.proofs.Spans.{payload_inside, field_at}
use Rattle.lisp_heap.proofs.WordReading.{cell_lives, cell_word_of}
use Rattle.lisp_heap.proofs.world.World.put.Goals as goal

pub fields-requires : goal.fields-requires
fields-requires c = cell_word_of c.self.inside c.args.self.now c.self.invariant c.self.view_is c.args.t c.args.c c.cell-of.result c.requires.thread c.cell-of.ensures

pub returns-in_default : goal.returns-in_default
returns-in_default c =
    let living = cell_lives c.self.inside c.args.self.now c.self.invariant c.self.view_is c.args.t c.args.c c.requires.thread in
    subst (λ (o : Plan). IsPlan (heap_of c.args.self.now) c.args.t (commands.Put c.args.c c.args.i c.args.a) o.answer o.change) (sym c.refused.ensures)
    (put_none (heap_of c.args.self.now) c.args.t c.args.c c.args.i c.args.a (c.in_default.ensures (cell_value (heap_of c.args.self.now) c.args.t c.args.c) living c.cell-of.ensures))

pub returns-then-i-fields : goal.returns-then-i-fields
returns-then-i-fields c =
    let living = cell_lives c.self.inside c.args.self.now c.self.invariant c.self.view_is c.args.t c.args.c c.requires.thread in
    let found = c.in-Some.ensures (cell_value (heap_of c.args.self.now) c.args.t c.args.c) living c.cell-of.ensures in
    let span : Span = record { first = c.in-Some.fields.first; count = c.in-Some.fields.count } in
    let o = (found.0).object in
    subst (λ (o : Plan). IsPlan (heap_of c.args.self.now) c.args.t (commands.Put c.args.c c.args.i c.args.a) o.answer o.change) (sym c.refused-then-i-fields.ensures)
    (put_out (heap_of c.args.self.now) c.args.t c.args.c c.args.i c.args.a (found.1) (fields_are (heap_of c.args.self.now).objects (cell_value (heap_of c.args.self.now) c.args.t c.args.c) o (found.1) (found.0).refers found.2)
    (omega (arith, (found.0).count, fields_payload o.contents (found.1) found.2, c.if-i-fields.true)))

pub overflow_add-result : goal.overflow_add-result
overflow_add-result c =
    let living = cell_lives c.self.inside c.args.self.now c.self.invariant c.self.view_is c.args.t c.args.c c.requires.thread in
    let found = c.in-Some.ensures (cell_value (heap_of c.args.self.now) c.args.t c.args.c) living c.cell-of.ensures in
    let span : Span = record { first = c.in-Some.fields.first; count = c.in-Some.fields.count } in
    let inside = payload_inside c.self.inside c.args.self.now c.self.invariant c.self.view_is (cell_value (heap_of c.args.self.now) c.args.t c.args.c) span (found.0) in
    omega (arith, inside.inside, inside.small, c.if-i-fields.false)

pub returns : goal.returns
returns c =
    let living = cell_lives c.self.inside c.args.self.now c.self.invariant c.self.view_is c.args.t c.args.c c.requires.thread in
    let found = c.in-Some.ensures (cell_value (heap_of c.args.self.now) c.args.t c.args.c) living c.cell-of.ensures in
    let span : Span = record { first = c.in-Some.fields.first; count = c.in-Some.fields.count } in
    let field = field_at c.self.inside c.args.self.now c.self.invariant c.self.view_is (cell_value (heap_of c.args.self.now) c.args.t c.args.c) span (found.1) c.args.i (found.0) found.2 c.if-i-fields.false in
    let o = (found.0).object in
    put_is (heap_of c.args.self.now) c.args.t c.args.c c.args.i c.args.a (c.in-Some.fields.first + c.args.i) c.cell-word.result o (found.1) (found.0).refers found.2 field.low
    (omega (arith, (found.0).first)) c.cell-word.ensures
