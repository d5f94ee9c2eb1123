-- The words are read.
use Rattle.std.proofs.Common.{ℕ, ◌*◌, List, inr, sym, ◌∙◌, ap, subst}
use Rattle.heap_terms.specs.declared.pages.Entry.{Entry}
use Rattle.heap_terms.specs.Heap.{entry_at}
use Rattle.scavenge.specs.Clear.{has_conses, IsReach, AreElsewhere}
use Rattle.scavenge.proofs.clear.needs_no_scan.Goals as goal

pub returns : goal.returns
returns c = λ clear.
    (let copier = c.args.copier.now in
    let from = 512 * c.args.page in
    let words = c.args.words in
    let g = ap (λ p. p.generation) c.pass-generation.ensures in
    let read = c.is_clear.ensures clear in
    let on_space = subst (λ (ws : List ℕ). AreElsewhere ws c.pages-3.result.now c.pass-generation.result.generation from words) c.space.ensures read in
    let on_pages = subst (λ (es : List Entry). AreElsewhere copier.space.now es c.pass-generation.result.generation from words) c.pages-3.ensures on_space in
    record {
      conses = λ some. ap has_conses (sym (c.entry.ensures ∙ ap (λ (es : List Entry). entry_at es c.args.page) c.pages.ensures)) ∙ sym c.holds_conses.ensures ∙ c.if-not-holds_conses.false;
      elsewhere = inr (subst (λ (k : ℕ). AreElsewhere copier.space.now copier.pages.now k from words) g on_pages);
    })

pub is_clear-requires-clause-reach : goal.is_clear-requires-clause-reach
is_clear-requires-clause-reach c =
    let copier = c.args.copier.now in
    let g = ap (λ p. p.generation) c.pass-generation.ensures in
    subst (λ (es : List Entry). IsReach es c.pass-generation.result.generation c.args.reach) (sym c.pages-3.ensures)
    (subst (λ (k : ℕ). IsReach copier.pages.now k c.args.reach) (sym g) c.requires.reach)
