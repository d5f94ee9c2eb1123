-- `rawput` writes a raw word.
use Rattle.std.proofs.Common.{◌+◌, arith, subst, sym, ap}
use Rattle.heap_terms.specs.declared.commands.Command.TheVariants as commands
use Rattle.heap_terms.specs.Cells.{cell_value}
use Rattle.heap_terms.specs.Objects.{kind_of}
use Rattle.lisp_heap.specs.LivingWords.{header_words}
use Rattle.lisp_heap.specs.Plan.{IsPlan}
use Rattle.lisp_heap.specs.View.{heap_of}
use Rattle.lisp_heap.specs.declared.plan.Plan.{Plan}
use Rattle.lisp_heap.specs.declared.referents.Span.{Span}
use Rattle.lisp_heap.proofs.Plans.{raws_are, raw_put_none, raw_put_out, raw_put_is}
use Rattle.lisp_heap.proofs.Spans.{payload_inside, raw_at, raws_payload, raws_contents}
use Rattle.lisp_heap.proofs.WordReading.{cell_lives, cell_word_of}
use Rattle.lisp_heap.proofs.world.World.raw_put.Goals as goal

pub raws-requires : goal.raws-requires
raws-requires c = cell_word_of c.self.inside c.args.self.now c.self.invariant c.self.view_is c.args.t c.args.c c.cell-of.result c.requires.thread c.cell-of.ensures

pub returns-in_default : goal.returns-in_default
returns-in_default c =
    let living = cell_lives c.self.inside c.args.self.now c.self.invariant c.self.view_is c.args.t c.args.c c.requires.thread in
    subst (λ (o : Plan). IsPlan (heap_of c.args.self.now) c.args.t (commands.RawPut c.args.c c.args.i c.args.r) o.answer o.change) (sym c.refused.ensures)
    (raw_put_none (heap_of c.args.self.now) c.args.t c.args.c c.args.i c.args.r (c.in_default.ensures (cell_value (heap_of c.args.self.now) c.args.t c.args.c) living c.cell-of.ensures))

pub returns-then-i-words : goal.returns-then-i-words
returns-then-i-words c =
    let living = cell_lives c.self.inside c.args.self.now c.self.invariant c.self.view_is c.args.t c.args.c c.requires.thread in
    let found = c.in-Some.ensures (cell_value (heap_of c.args.self.now) c.args.t c.args.c) living c.cell-of.ensures in
    let span : Span = record { first = c.in-Some.words.first; count = c.in-Some.words.count } in
    let o = (found.0).object in
    subst (λ (o : Plan). IsPlan (heap_of c.args.self.now) c.args.t (commands.RawPut c.args.c c.args.i c.args.r) o.answer o.change) (sym c.refused-then-i-words.ensures)
    (raw_put_out (heap_of c.args.self.now) c.args.t c.args.c c.args.i c.args.r (found.1) (raws_are (heap_of c.args.self.now).objects (cell_value (heap_of c.args.self.now) c.args.t c.args.c) o (found.1) (found.0).refers found.2)
    (omega (arith, (found.0).count, raws_payload o.contents (found.1) found.2, c.if-i-words.true)))

pub overflow_add-result : goal.overflow_add-result
overflow_add-result c =
    let living = cell_lives c.self.inside c.args.self.now c.self.invariant c.self.view_is c.args.t c.args.c c.requires.thread in
    let found = c.in-Some.ensures (cell_value (heap_of c.args.self.now) c.args.t c.args.c) living c.cell-of.ensures in
    let span : Span = record { first = c.in-Some.words.first; count = c.in-Some.words.count } in
    let inside = payload_inside c.self.inside c.args.self.now c.self.invariant c.self.view_is (cell_value (heap_of c.args.self.now) c.args.t c.args.c) span (found.0) in
    omega (arith, inside.inside, inside.small, c.if-i-words.false)

pub returns : goal.returns
returns c =
    let living = cell_lives c.self.inside c.args.self.now c.self.invariant c.self.view_is c.args.t c.args.c c.requires.thread in
    let found = c.in-Some.ensures (cell_value (heap_of c.args.self.now) c.args.t c.args.c) living c.cell-of.ensures in
    let span : Span = record { first = c.in-Some.words.first; count = c.in-Some.words.count } in
    let raw = raw_at c.self.inside c.args.self.now c.self.invariant c.self.view_is (cell_value (heap_of c.args.self.now) c.args.t c.args.c) span (found.1) c.args.i (found.0) found.2 c.if-i-words.false in
    let o = (found.0).object in
    let is = raws_contents o.contents (found.1) found.2 in
    raw_put_is (heap_of c.args.self.now) c.args.t c.args.c c.args.i c.args.r (c.in-Some.words.first + c.args.i) c.raw-word.result o (found.1) (found.0).refers is raw.low
    (omega (arith, (found.0).first, ap (λ (k : _). header_words (kind_of k)) is)) c.raw-word.ensures
