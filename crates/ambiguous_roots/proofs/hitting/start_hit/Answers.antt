-- Whoever starts where the word points is found there, and nothing else has the word.
use Rattle.std.proofs.Common.{◌≡◌, ℕ, ◌≤◌, ◌==◌, length, sym, ◌∙◌, ap, arith}
use Rattle.std.specs.Bool.{then_some}
use Rattle.heap_terms.specs.declared.limits.TheConstants.{MOST_PAGES}
use Rattle.object_walk.specs.Walks.{found_at}
use Rattle.ambiguous_roots.proofs.OneWord.{start_within, hit_tagged, same_index, only_hit}
use Rattle.ambiguous_roots.proofs.Pointing.{not_both}
use Rattle.ambiguous_roots.proofs.hitting.start_hit.Goals as goal

pub returns-in_err-index-clause-only : goal.returns-in_err-index-clause-only
returns-in_err-index-clause-only c start h is =
    let most : length c.args.pages.now ≤ MOST_PAGES = omega (arith, c.len-end.ensures.value, c.len-end.ensures.most) in
    let tagged = hit_tagged c.args.space.now c.args.pages.now c.args.word start h is most in
    absurd (not_both c.untag.result (start.index, tagged.0) c.in_err-index.was (c.untag.ensures.only start.index tagged.0 tagged.1))

pub returns-then-index-end-clause-only : goal.returns-then-index-end-clause-only
returns-then-index-end-clause-only c start h is =
    let most : length c.args.pages.now ≤ MOST_PAGES = omega (arith, c.len-end.ensures.value, c.len-end.ensures.most) in
    let tagged = hit_tagged c.args.space.now c.args.pages.now c.args.word start h is most in
    let here : start.index ≡ c.in_ok-index.index =
    same_index c.untag.result c.in_ok-index.index start.index _ tagged.0 c.in_ok-index.was (c.untag.ensures.only start.index tagged.0 tagged.1) in
    let below = (start_within c.args.space.now c.args.pages.now start h).below in
    absurd (omega (arith, here, below, c.len-end.ensures.value, c.if-index-end.true))

pub start_at-requires-clause-laid : goal.start_at-requires-clause-laid
start_at-requires-clause-laid c = c.requires.laid c.in_ok-index.index _ c.in_ok-index.ensures.tagged (omega (arith, c.requires.paged, c.len-end.ensures.value, c.if-index-end.false))

pub returns-in_err-found-clause-only : goal.returns-in_err-found-clause-only
returns-in_err-found-clause-only c start h is =
    let most : length c.args.pages.now ≤ MOST_PAGES = omega (arith, c.len-end.ensures.value, c.len-end.ensures.most) in
    let tagged = hit_tagged c.args.space.now c.args.pages.now c.args.word start h is most in
    let here : start.index ≡ c.in_ok-index.index =
    same_index c.untag.result c.in_ok-index.index start.index _ tagged.0 c.in_ok-index.was (c.untag.ensures.only start.index tagged.0 tagged.1) in
    absurd (not_both c.start_at.result (found_at start) c.in_err-found.was (c.start_at.ensures.only start here h))

pub returns-clause-only : goal.returns-clause-only
returns-clause-only c start h is =
    let most : length c.args.pages.now ≤ MOST_PAGES = omega (arith, c.len-end.ensures.value, c.len-end.ensures.most) in
    let tagged = hit_tagged c.args.space.now c.args.pages.now c.args.word start h is most in
    let here : start.index ≡ c.in_ok-index.index =
    same_index c.untag.result c.in_ok-index.index start.index _ tagged.0 c.in_ok-index.was (c.untag.ensures.only start.index tagged.0 tagged.1) in
    only_hit c.args.word c.in_ok-index.index start c.in_ok-found.found c.then_some.result here (sym c.in_ok-found.was ∙ c.start_at.ensures.only start here h) is
    (c.then_some.ensures ∙ ap (λ (t : ℕ). then_some (t == c.args.word) c.in_ok-index.index) c.tag.ensures)
