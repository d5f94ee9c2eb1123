-- Pair by pair of words.
use Rattle.std.proofs.Common.{ℕ, ◌+◌, length, sym, subst, arith}
use Rattle.ambiguous_roots.proofs.ConsPages.{IsCounted, none-counted, part-cons, part-fillers, all-counted}
use Rattle.ambiguous_roots.proofs.conses.conses_in.Goals as goal
use Rattle.ambiguous_roots.proofs.conses.conses_in.Goals.{then-word-ne1, else-word-ne1+else-word-ne-FILLER_WORD}

pub loop-index-init : goal.loop-index-init
loop-index-init c = record {
  few = omega arith;
  near = omega arith;
  counted = λ words from pieces is inside laid. none-counted words from (from + length c.args.words.now) pieces laid;
}

pub loop-index-preserved : goal.loop-index-preserved
loop-index-preserved c = elim c.if-word-ne1.branch [
  | then-word-ne1 w ↦ record {
    few = omega (arith, c.loop-index.invariant.few, w.count-is);
    near = omega (arith, c.loop-index-test.true);
    counted = λ words from pieces is inside laid.
        subst (λ (n : ℕ). IsCounted words from (from + length c.args.words.now) pieces (c.loop-index.index + 2) n) (sym w.count-is)
        (part-cons c.args.words.now words from pieces c.loop-index.index c.loop-index.count is c.loop-index-test.true w.if-word-ne1.true (c.loop-index.invariant.counted words from pieces is inside laid));
  }
  | else-word-ne1+else-word-ne-FILLER_WORD w ↦ record {
    few = omega (arith, c.loop-index.invariant.few, w.count-is);
    near = omega (arith, c.loop-index-test.true);
    counted = λ words from pieces is inside laid.
        subst (λ (n : ℕ). IsCounted words from (from + length c.args.words.now) pieces (c.loop-index.index + 2) n) (sym w.count-is)
        (part-fillers c.args.words.now words from pieces c.loop-index.index c.loop-index.count is c.loop-index-test.true w.if-word-ne-FILLER_WORD.false (c.loop-index.invariant.counted words from pieces is inside laid));
  }
]

pub returns : goal.returns
returns c = λ words from pieces is inside laid.
    all-counted words from (from + length c.args.words.now) pieces c.loop-index.index c.loop-index.count (omega (arith, c.loop-index-test.false)) (c.loop-index.invariant.counted words from pieces is inside laid)
