-- The words are those of a part of the space.
use Rattle.scavenge.proofs.Reaching.{all-elsewhere, in-part}
use Rattle.scavenge.proofs.clear.is_clear.Goals as goal

pub returns-then-not-may_be_within : goal.returns-then-not-may_be_within
returns-then-not-may_be_within c = λ _.
    in-part c.args.space.now c.in-Some.words.now c.args.pages.now c.args.generation c.args.from c.args.count c.in-Some.ensures c.requires.inside
    (all-elsewhere c.in-Some.words.now c.args.pages.now c.args.generation c.args.reach c.requires.reach (c.may_be_within.ensures c.if-not-may_be_within.true))

pub returns-else-not-may_be_within : goal.returns-else-not-may_be_within
returns-else-not-may_be_within c = λ clear.
    in-part c.args.space.now c.in-Some.words.now c.args.pages.now c.args.generation c.args.from c.args.count c.in-Some.ensures c.requires.inside (c.are_clear.ensures clear)
