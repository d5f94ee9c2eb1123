-- A page in use was taken in this pass, so it has a fill, and it is inside the table.
use Rattle.std.proofs.Common.{◌+◌, ◌*◌, ◌≤◌, List, Some, sym, subst, arith}
use Rattle.heap_terms.specs.declared.pages.Entry.{Entry}
use Rattle.heap_terms.specs.Heap.{entry_at, fill_of}
use Rattle.copy_space.specs.Step.{IsStep}
use Rattle.copy_space.proofs.Stepping.{in_use_page, step-old}
use Rattle.copy_space.proofs.placing.place.Goals as goal

pub fill_of-fill-requires : goal.fill_of-fill-requires
fill_of-fill-requires c = (in_use_page c.args.pages.now c.args.in_use.now c.args.ty c.in-Some.page c.requires.taken (sym (c.in-Some.ensures c.args.pages.now))).inside

pub overflow_add-fill : goal.overflow_add-fill
overflow_add-fill c =
    let h = in_use_page c.args.pages.now c.args.in_use.now c.args.ty c.in-Some.page c.requires.taken (sym (c.in-Some.ensures c.args.pages.now)) in
    omega (arith, h.most, c.fill_of-fill.ensures, c.requires.bound)

pub set_fill-requires-clause-inside : goal.set_fill-requires-clause-inside
set_fill-requires-clause-inside c = (in_use_page c.args.pages.now c.args.in_use.now c.args.ty c.in-Some.page c.requires.taken (sym (c.in-Some.ensures c.args.pages.now))).inside

pub set_fill-requires-clause-used : goal.set_fill-requires-clause-used
set_fill-requires-clause-used c = (in_use_page c.args.pages.now c.args.in_use.now c.args.ty c.in-Some.page c.requires.taken (sym (c.in-Some.ensures c.args.pages.now))).used

pub overflow_mul-result : goal.overflow_mul-result
overflow_mul-result c =
    let h = in_use_page c.args.pages.now c.args.in_use.now c.args.ty c.in-Some.page c.requires.taken (sym (c.in-Some.ensures c.args.pages.now)) in
    omega (arith, h.inside, c.requires.most)

pub overflow_add-result : goal.overflow_add-result
overflow_add-result c =
    let h = in_use_page c.args.pages.now c.args.in_use.now c.args.ty c.in-Some.page c.requires.taken (sym (c.in-Some.ensures c.args.pages.now)) in
    omega (arith, h.inside, h.most, c.fill_of-fill.ensures, c.requires.most)

pub returns-then-fill-size-le-PAGE_WORDS : goal.returns-then-fill-size-le-PAGE_WORDS
returns-then-fill-size-le-PAGE_WORDS c =
    let room : fill_of (entry_at c.args.pages.now c.in-Some.page) + c.args.size ≤ 512 = omega (arith, c.fill_of-fill.ensures, c.if-fill-size-le-PAGE_WORDS.true) in
    let step = step-old c.args.pages.now c.args.in_use.now c.args.ty c.args.size c.in-Some.page c.requires.taken c.requires.least (sym (c.in-Some.ensures c.args.pages.now)) room in
    let is = c.fill_of-fill.ensures in
    let a = c.args in
    record {
      step = subst (λ (ps : List Entry). IsStep a.pages.now a.in_use.now a.ty a.size (Some (512 * c.in-Some.page + c.fill_of-fill.result)) ps a.in_use.now) (sym c.set_fill.ensures)
          (rw is step);
    }
