-- A region is lent, or there is none.
use Rattle.std.proofs.Common.{ℕ, subst}
use Rattle.heap_terms.specs.Histories.{command_at, wish_at, wished_size}
use Rattle.heap_terms.specs.Regions.{HasNoRun, pages_needed}
use Rattle.lisp_heap.specs.View.{heap_of}
use Rattle.lisp_heap.proofs.Lending.{needed_is, no_run_there}
use Rattle.lisp_heap.proofs.world.World.lend.Goals as goal

pub refuse-requires-clause-none : goal.refuse-requires-clause-none
refuse-requires-clause-none c =
    let w = c.args.self.now in
    let t = c.owner-t.result in
    let needed = needed_is c.pages_needed-pages.result c.size_of.result c.wished-making.result (wish_at (command_at w.program (heap_of w) t))
    c.pages_needed-pages.ensures.value c.size_of.ensures c.wished-making.ensures.wish in
    subst (λ (k : ℕ). HasNoRun (heap_of w).pages k) needed
    (no_run_there c.self.inside w c.self.invariant c.self.view_is c.pages_needed-pages.result c.in-None.ensures.none)

pub returns-in_ok-refuse-in-None-clause-lent : goal.returns-in_ok-refuse-in-None-clause-lent
returns-in_ok-refuse-in-None-clause-lent c = λ found. (
    let w = c.args.self.now in
    let none : HasNoRun (heap_of w).pages (pages_needed (wished_size (wish_at (command_at w.program (heap_of w) c.args.parcel.now.owner)))) =
    subst (λ (t : ℕ). HasNoRun (heap_of w).pages (pages_needed (wished_size (wish_at (command_at w.program (heap_of w) t))))) c.owner-t.ensures
    (let t = c.owner-t.result in
    let needed = needed_is c.pages_needed-pages.result c.size_of.result c.wished-making.result (wish_at (command_at w.program (heap_of w) t))
    c.pages_needed-pages.ensures.value c.size_of.ensures c.wished-making.ensures.wish in
    subst (λ (k : ℕ). HasNoRun (heap_of w).pages k) needed
    (no_run_there c.self.inside w c.self.invariant c.self.view_is c.pages_needed-pages.result c.in-None.ensures.none)) in
    none (found.0) found.1)
