-- The run that was found is the lowest; a small object takes one page of it into use, a large one all.
use Rattle.std.proofs.Common.{ℕ, ◌*◌, List, Some, sym, ◌∙◌, ap, subst}
use Rattle.heap_terms.specs.declared.pages.Entry.{Entry}
use Rattle.heap_terms.specs.Placement.{taken_run}
use Rattle.heap_terms.specs.Regions.{IsLowestRun, HasNoRun, pages_needed}
use Rattle.copy_space.specs.Step.{IsStep}
use Rattle.copy_space.proofs.Stepping.{step-none, step-large, step-new}
use Rattle.copy_space.proofs.placing.place_on_run.Goals as goal

pub returns-in_default : goal.returns-in_default
returns-in_default c = record {
  step = step-none c.args.pages.now c.args.in_use.now c.args.ty c.args.size c.requires.full
      (subst (λ (k : ℕ). HasNoRun c.args.pages.now k) c.pages_needed-k.ensures (rw c.in_default.is at c.find_run.ensures.none));
}

pub returns-then-size-gt-PAGE_WORDS : goal.returns-then-size-gt-PAGE_WORDS
returns-then-size-gt-PAGE_WORDS c =
    let a = c.args in
    let run : IsLowestRun a.pages.now c.in-Some.first (pages_needed a.size) =
    subst (λ (k : ℕ). IsLowestRun a.pages.now c.in-Some.first k) c.pages_needed-k.ensures c.in-Some.ensures.found in
    let step = step-large a.pages.now a.in_use.now a.ty a.size c.in-Some.first c.if-size-gt-PAGE_WORDS.true c.requires.full run in
    let same = c.take_filled.ensures ∙ ap (λ (k : ℕ). taken_run a.pages.now a.ty c.in-Some.first k a.size) c.pages_needed-k.ensures in
    record { step = subst (λ (ps : List Entry). IsStep a.pages.now a.in_use.now a.ty a.size (Some (512 * c.in-Some.first)) ps a.in_use.now) (sym same) step }

pub returns : goal.returns
returns c =
    let a = c.args in
    let run : IsLowestRun a.pages.now c.in-Some.first (pages_needed a.size) =
    subst (λ (k : ℕ). IsLowestRun a.pages.now c.in-Some.first k) c.pages_needed-k.ensures c.in-Some.ensures.found in
    let step = step-new a.pages.now a.in_use.now c.with.result a.ty a.size c.in-Some.first c.if-size-gt-PAGE_WORDS.false c.requires.full run c.with.ensures in
    let same = c.take_filled.ensures ∙ ap (λ (k : ℕ). taken_run a.pages.now a.ty c.in-Some.first k a.size) c.pages_needed-k.ensures in
    record { step = subst (λ (ps : List Entry). IsStep a.pages.now a.in_use.now a.ty a.size (Some (512 * c.in-Some.first)) ps c.with.result) (sym same) step }
