use Rattle.scavenge.specs.Clear.{AreElsewhere}
use Rattle.scavenge.proofs.clear.are_clear.Given as goal

abbrev pub invariant-loop-word : goal.invariant-loop-word
invariant-loop-word l = AreElsewhere l.words l.pages l.generation 0 l.word-index
