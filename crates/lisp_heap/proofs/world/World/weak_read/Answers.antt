-- `weakval` reads what a weak pointer points to.
use Rattle.std.proofs.Common.{◌≡◌, arith, subst, sym, ◌∙◌, Some}
use Rattle.heap_terms.specs.declared.cells.Value.{Value}
use Rattle.heap_terms.specs.declared.commands.Command.TheVariants as commands
use Rattle.heap_terms.specs.Cells.{cell_value}
use Rattle.heap_terms.specs.Layout.{unbound_word}
use Rattle.heap_terms.specs.Referents.{pointee_at}
use Rattle.heap_terms.specs.Spelling.{word_of}
use Rattle.lisp_heap.specs.Plan.{IsPlan}
use Rattle.lisp_heap.specs.View.{heap_of}
use Rattle.lisp_heap.specs.declared.plan.Plan.{Plan}
use Rattle.lisp_heap.proofs.TablePlans.{no_pointee, weak_none, weak_broken, weak_live}
use Rattle.lisp_heap.proofs.TableReading.{points_to, unbound_is, bound_lives}
use Rattle.lisp_heap.proofs.WordReading.{cell_lives, cell_word_of}
use Rattle.lisp_heap.proofs.world.World.weak_read.Goals as goal

pub object_of_kind-requires : goal.object_of_kind-requires
object_of_kind-requires c = cell_word_of c.self.inside c.args.self.now c.self.invariant c.self.view_is c.args.t c.args.c c.cell-of.result c.requires.thread c.cell-of.ensures

pub returns-in_default : goal.returns-in_default
returns-in_default c =
    let a = heap_of c.args.self.now in
    let v = cell_value a c.args.t c.args.c in
    let living = cell_lives c.self.inside c.args.self.now c.self.invariant c.self.view_is c.args.t c.args.c c.requires.thread in
    subst (λ (o : Plan). IsPlan a c.args.t (commands.WeakVal c.args.d c.args.c) o.answer o.change) (sym c.refused.ensures)
    (weak_none a c.args.t c.args.d c.args.c (no_pointee a.objects v (c.in_default.ensures v living c.cell-of.ensures)))

pub overflow_add-index : goal.overflow_add-index
overflow_add-index c =
    let v = cell_value (heap_of c.args.self.now) c.args.t c.args.c in
    let living = cell_lives c.self.inside c.args.self.now c.self.invariant c.self.view_is c.args.t c.args.c c.requires.thread in
    let p = points_to c.self.inside c.args.self.now c.self.invariant c.self.view_is v c.in-Some.index (c.in-Some.ensures v living c.cell-of.ensures) in
    omega (arith, p.small)

pub read-word-requires : goal.read-word-requires
read-word-requires c =
    let v = cell_value (heap_of c.args.self.now) c.args.t c.args.c in
    let living = cell_lives c.self.inside c.args.self.now c.self.invariant c.self.view_is c.args.t c.args.c c.requires.thread in
    let p = points_to c.self.inside c.args.self.now c.self.invariant c.self.view_is v c.in-Some.index (c.in-Some.ensures v living c.cell-of.ensures) in
    p.inside

pub returns-then-word-eq-UNBOUND_WORD : goal.returns-then-word-eq-UNBOUND_WORD
returns-then-word-eq-UNBOUND_WORD c =
    let a = heap_of c.args.self.now in
    let v = cell_value a c.args.t c.args.c in
    let living = cell_lives c.self.inside c.args.self.now c.self.invariant c.self.view_is c.args.t c.args.c c.requires.thread in
    let p = points_to c.self.inside c.args.self.now c.self.invariant c.self.view_is v c.in-Some.index (c.in-Some.ensures v living c.cell-of.ensures) in
    let word : word_of a.objects p.pointee ≡ unbound_word = sym p.word_is ∙ sym c.read-word.ensures ∙ c.if-word-eq-UNBOUND_WORD.true in
    let unbound = unbound_is c.self.inside c.args.self.now c.self.invariant c.self.view_is p.pointee p.either word in
    weak_broken a c.args.t c.args.d c.args.c c.requires.d (subst (λ (u : Value). pointee_at a.objects v ≡ Some u) unbound p.is)

pub value_of-requires : goal.value_of-requires
value_of-requires c =
    let a = heap_of c.args.self.now in
    let v = cell_value a c.args.t c.args.c in
    let living = cell_lives c.self.inside c.args.self.now c.self.invariant c.self.view_is c.args.t c.args.c c.requires.thread in
    let p = points_to c.self.inside c.args.self.now c.self.invariant c.self.view_is v c.in-Some.index (c.in-Some.ensures v living c.cell-of.ensures) in
    record {
      value = p.pointee;
      living = bound_lives a p.pointee p.either (λ e. c.if-word-eq-UNBOUND_WORD.false (c.read-word.ensures ∙ p.word_is ∙ e));
      word_is = c.read-word.ensures ∙ p.word_is;
    }

pub returns : goal.returns
returns c =
    let a = heap_of c.args.self.now in
    let v = cell_value a c.args.t c.args.c in
    let living = cell_lives c.self.inside c.args.self.now c.self.invariant c.self.view_is c.args.t c.args.c c.requires.thread in
    let p = points_to c.self.inside c.args.self.now c.self.invariant c.self.view_is v c.in-Some.index (c.in-Some.ensures v living c.cell-of.ensures) in
    let lives = bound_lives a p.pointee p.either (λ e. c.if-word-eq-UNBOUND_WORD.false (c.read-word.ensures ∙ p.word_is ∙ e)) in
    let word_is = c.read-word.ensures ∙ p.word_is in
    weak_live a c.args.t c.args.d c.args.c p.pointee c.value_of.result c.read-word.result c.requires.d p.is lives (c.value_of.ensures p.pointee lives word_is) word_is
