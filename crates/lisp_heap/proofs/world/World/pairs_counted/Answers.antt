-- `tcount` reads how many pairs a table has.
use Rattle.std.proofs.Common.{subst, sym, ◌∙◌, map}
use Rattle.std.proofs.lemmas.List.{length-map}
use Rattle.heap_terms.specs.declared.commands.Command.TheVariants as commands
use Rattle.heap_terms.specs.Cells.{cell_value}
use Rattle.lisp_heap.specs.Plan.{IsPlan}
use Rattle.lisp_heap.specs.View.{heap_of}
use Rattle.lisp_heap.specs.declared.plan.Plan.{Plan}
use Rattle.lisp_heap.proofs.Soundness.{heap}
use Rattle.lisp_heap.proofs.TablePlans.{no_table, count_none, count_is}
use Rattle.lisp_heap.proofs.TableReading.{stands_table, counted}
use Rattle.lisp_heap.proofs.TablesHere.{in_words}
use Rattle.lisp_heap.proofs.WordReading.{cell_lives, cell_word_of}
use Rattle.lisp_heap.proofs.world.World.pairs_counted.Goals as goal

pub object_of_kind-requires : goal.object_of_kind-requires
object_of_kind-requires c = cell_word_of c.self.inside c.args.self.now c.self.invariant c.self.view_is c.args.t c.args.c c.cell-of.result c.requires.thread c.cell-of.ensures

pub returns-in_default : goal.returns-in_default
returns-in_default c =
    let a = heap_of c.args.self.now in
    let v = cell_value a c.args.t c.args.c in
    let living = cell_lives c.self.inside c.args.self.now c.self.invariant c.self.view_is c.args.t c.args.c c.requires.thread in
    subst (λ (o : Plan). IsPlan a c.args.t (commands.TableCount c.args.c) o.answer o.change) (sym c.refused.ensures)
    (count_none a c.args.t c.args.c (no_table a.objects v (c.in_default.ensures v living c.cell-of.ensures)))

pub count-requires : goal.count-requires
count-requires c =
    let v = cell_value (heap_of c.args.self.now) c.args.t c.args.c in
    let living = cell_lives c.self.inside c.args.self.now c.self.invariant c.self.view_is c.args.t c.args.c c.requires.thread in
    let t = stands_table c.self.inside c.args.self.now c.self.invariant c.self.view_is v c.in-Some.table (c.in-Some.ensures v living c.cell-of.ensures) in
    record { b = t.b; pairs = map (in_words (heap c.self.inside).objects) t.pairs; is = t.words }

pub returns : goal.returns
returns c =
    let v = cell_value (heap_of c.args.self.now) c.args.t c.args.c in
    let living = cell_lives c.self.inside c.args.self.now c.self.invariant c.self.view_is c.args.t c.args.c c.requires.thread in
    let t = stands_table c.self.inside c.args.self.now c.self.invariant c.self.view_is v c.in-Some.table (c.in-Some.ensures v living c.cell-of.ensures) in
    let pairs = map (in_words (heap c.self.inside).objects) t.pairs in
    count_is (heap_of c.args.self.now) c.args.t c.args.c (record { weakness = t.w; capacity = t.b; pairs = t.pairs }) c.from.result
    (counted c.self.inside c.args.self.now c.self.view_is v c.in-Some.table t)
    (c.from.ensures ∙ c.count.ensures t.b pairs t.words ∙ length-map t.pairs (in_words (heap c.self.inside).objects))
