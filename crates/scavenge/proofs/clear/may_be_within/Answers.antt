use Rattle.scavenge.proofs.Reaching.{beyond-more}
use Rattle.scavenge.proofs.clear.may_be_within.Goals as goal

pub loop-word-preserved : goal.loop-word-preserved
loop-word-preserved c = beyond-more c.args.words.now c.args.reach c.loop-word.found c.loop-word.word-index c.requires c.loop-word.invariant
