use Rattle.std.proofs.Common.{◌<◌, ◌≤◌, length, subst, sym, ap, arith}
use Rattle.heap_terms.specs.declared.answers.Answer.TheVariants as answers
use Rattle.heap_terms.specs.declared.answers.PageView.{PageView}
use Rattle.heap_terms.specs.declared.commands.Command.TheVariants as commands
use Rattle.heap_terms.specs.declared.answers.Refusal.TheVariants.{OutOfRange}
use Rattle.heap_terms.specs.PageViews.{page_view}
use Rattle.lisp_heap.specs.Plan.{IsPlan}
use Rattle.lisp_heap.specs.View.{View, heap_of}
use Rattle.lisp_heap.specs.declared.plan.Change.TheVariants as changes
use Rattle.lisp_heap.specs.declared.plan.Plan.{Plan}
use Rattle.lisp_heap.proofs.PageViewing.{viewed_none, viewed_is}
use Rattle.lisp_heap.proofs.Soundness.{heap}
use Rattle.lisp_heap.proofs.world.World.viewed.Goals as goal

pub returns-then-p-len : goal.returns-then-p-len
returns-then-p-len c =
    let s = c.self.inside in
    let long = ap length c.self.invariant.holds.pages in
    let past : length (heap s).pages ≤ c.args.p = omega (arith, c.len.ensures.value) in
    subst (λ (o : Plan). IsPlan (heap_of c.args.self.now) c.args.t (commands.ShowPage c.args.p) o.answer o.change) (sym c.refused.ensures)
    (subst (λ (w : View). IsPlan (heap_of w) c.args.t (commands.ShowPage c.args.p) (answers.Refused OutOfRange) changes.Nothing) c.self.view_is
    (viewed_none (heap s) c.args.t c.args.p past))

pub returns : goal.returns
returns c =
    let s = c.self.inside in
    let long = ap length c.self.invariant.holds.pages in
    let inside : c.args.p < length (heap s).pages = omega (arith, c.len.ensures.value) in
    let plan = subst (λ (w : View). IsPlan (heap_of w) c.args.t (commands.ShowPage c.args.p) (answers.Page (page_view (heap_of w) c.args.p)) changes.Nothing) c.self.view_is
    (viewed_is (heap s) c.args.t c.args.p inside) in
    subst (λ (v : PageView). IsPlan (heap_of c.args.self.now) c.args.t (commands.ShowPage c.args.p) (answers.Page v) changes.Nothing) (sym c.in_ok-view.ensures) plan
