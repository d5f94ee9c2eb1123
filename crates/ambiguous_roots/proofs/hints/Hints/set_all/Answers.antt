-- One word more.
use Rattle.std.proofs.Common.{◌≡◌, length, ◌∙◌, arith}
use Rattle.ambiguous_roots.proofs.Pointing.{set-more, others-more}
use Rattle.ambiguous_roots.proofs.hints.Hints.set_all.Goals as goal

pub loop-word-preserved : goal.loop-word-preserved
loop-word-preserved c =
    let long : length c.loop-word.self ≡ length c.args.self.now = c.loop-word.invariant.long in
    record {
      set = λ k p l. set-more c.args.words.now c.loop-word.word-index c.args.hint c.loop-word.self c.set_for.new.self c.set_for.ensures.set c.set_for.ensures.others
          (λ j q m. c.loop-word.invariant.set j q (omega arith)) k p (omega arith);
      others = others-more c.args.words.now c.loop-word.word-index c.args.self.now c.loop-word.self c.set_for.new.self c.set_for.ensures.others c.loop-word.invariant.others;
      long = c.set_for.ensures.long ∙ long;
    }
