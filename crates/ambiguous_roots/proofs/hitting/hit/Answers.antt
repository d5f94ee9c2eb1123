-- By the words and by a heap for which they stand.
use Rattle.ambiguous_roots.proofs.OneWord.{hit_of, none_hit}
use Rattle.ambiguous_roots.proofs.hitting.hit.Goals as goal

pub returns-clause-none : goal.returns-clause-none
returns-clause-none c none start h is = none_hit c.start_hit.result start.index none (c.start_hit.ensures.only start h is)

pub returns-clause-heap : goal.returns-clause-heap
returns-clause-heap c a sound stand same = hit_of a c.args.space.now c.args.pages.now c.args.word c.start_hit.result sound stand same c.start_hit.ensures.found c.start_hit.ensures.only
