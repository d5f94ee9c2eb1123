use Rattle.std.proofs.Common.{◌≡◌, ℕ, ◌≤◌, inl, inr, min, sym, ◌∙◌, ap, arith}
use Rattle.std.proofs.Math.Nat.{min-le_left, min-le_right}
use Rattle.std.proofs.lemmas.Bool.{cases_lt}
use Rattle.heap_terms.specs.Heap.{entry_at}
use Rattle.copy_space.specs.Pages.{is_page_of}
use Rattle.scavenge.proofs.UsedPages.{free-other}
use Rattle.scavenge.proofs.clear.span_of.Goals as goal
use Rattle.scavenge.proofs.clear.span_of.Goals.{then-is_of, else-is_of}

pub loop-page-preserved : goal.loop-page-preserved
loop-page-preserved c = elim c.if-is_of.branch [
  | then-is_of w ↦ (
      let first : c.if-is_of.first ≡ min c.loop-page.first c.loop-page.page = w.first-is ∙ w.min-first.ensures in
      let left : c.if-is_of.first ≤ c.loop-page.first = rw first (min-le_left c.loop-page.first c.loop-page.page) in
      let right : c.if-is_of.first ≤ c.loop-page.page = rw first (min-le_right c.loop-page.first c.loop-page.page) in
      let end = w.end-is in
      record {
        least = omega (arith, left, c.loop-page.invariant.least);
        most = omega (arith, end);
        within = λ p below out. elim out [
          | inl low ↦ c.loop-page.invariant.within p (omega (arith, low, right)) (inl (omega (arith, low, left)))
          | inr high ↦ absurd (omega (arith, high, end, below))
        ];
      })
  | else-is_of w ↦ (
      let first = w.first-is in
      let end = w.end-is in
      record {
        least = omega (arith, first, c.loop-page.invariant.least);
        most = omega (arith, end, c.loop-page.invariant.most);
        within = λ p below out. elim (cases_lt p c.loop-page.page) [
          | inl before ↦ c.loop-page.invariant.within p before (elim out [ inl low ↦ inl (omega (arith, low, first)) | inr high ↦ inr (omega (arith, high, end)) ])
          | inr here ↦ (let at : p ≡ c.loop-page.page = omega arith in
              ap (λ (q : ℕ). is_page_of (entry_at c.args.pages.now q) c.args.generation) at ∙ sym c.is_of.ensures ∙ w.if-is_of.false)
        ];
      })
]

pub returns-clause-within : goal.returns-clause-within
returns-clause-within c = λ p out. elim (cases_lt p c.loop-page.page) [
  | inl below ↦ c.loop-page.invariant.within p below out
  | inr above ↦ free-other (entry_at c.args.pages.now p) c.args.generation (c.used_end-page-end.ensures.free p (omega (arith, above, c.loop-page-test.false)))
]
