use Rattle.std.proofs.Common.{sym, ◌∙◌, arith}
use Rattle.object_walk.proofs.Walked.{IsMet, walk_skips, walk_meets, walk_ends, IsRead, object_read, first_word}
use Rattle.object_walk.proofs.walk.first_object.Goals as goal

-- what stands at the index is an object
met_then : (c : goal.Then-word-ne-FILLER_WORD) → IsMet c.args.space.now c.loop-index.index c.args.end
met_then c = walk_meets c.args.space.now c.loop-index.index c.args.end c.loop-index.invariant.walk c.loop-index-test.true
    (λ e. c.if-word-ne-FILLER_WORD.true (c.read-word.ensures ∙ e))

read_at : (c : goal.After-object_at) → IsRead c.args.space.now c.loop-index.index c.args.end c.object_at.result
read_at c =
    let m = walk_meets c.args.space.now c.loop-index.index c.args.end c.loop-index.invariant.walk c.loop-index-test.true
    (λ e. c.if-word-ne-FILLER_WORD.true (c.read-word.ensures ∙ e)) in
    object_read c.args.space.now c.loop-index.index c.args.end c.read-word.result c.object_at.result m c.read-word.ensures c.object_at.ensures

pub object_at-requires-clause-begins : goal.object_at-requires-clause-begins
object_at-requires-clause-begins c = first_word c.args.space.now c.loop-index.index c.args.end c.read-word.result (met_then c) c.read-word.ensures

pub returns-then-word-ne-FILLER_WORD-clause-left : goal.returns-then-word-ne-FILLER_WORD-clause-left
returns-then-word-ne-FILLER_WORD-clause-left c = c.loop-index.invariant.left ∙ (read_at c).left

pub returns-then-word-ne-FILLER_WORD-clause-walk : goal.returns-then-word-ne-FILLER_WORD-clause-walk
returns-then-word-ne-FILLER_WORD-clause-walk c = (read_at c).walk

pub returns-then-word-ne-FILLER_WORD-clause-small : goal.returns-then-word-ne-FILLER_WORD-clause-small
returns-then-word-ne-FILLER_WORD-clause-small c = omega (arith, (read_at c).small, c.requires.most, c.loop-index-test.true)

pub loop-index-preserved : goal.loop-index-preserved
loop-index-preserved c =
    let s = walk_skips c.args.space.now c.loop-index.index c.args.end c.loop-index.invariant.walk c.loop-index-test.true
    (sym c.read-word.ensures ∙ c.if-word-ne-FILLER_WORD.false) in
    record { left = c.loop-index.invariant.left ∙ s.left; walk = s.walk }

pub returns-clause-left : goal.returns-clause-left
returns-clause-left c =
    c.loop-index.invariant.left ∙ walk_ends c.args.space.now c.loop-index.index c.args.end c.loop-index.invariant.walk c.loop-index-test.false
