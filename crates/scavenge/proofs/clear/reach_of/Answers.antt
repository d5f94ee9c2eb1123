use Rattle.std.proofs.Common.{arith}
use Rattle.scavenge.proofs.Reaching.{reach-of}
use Rattle.scavenge.proofs.clear.reach_of.Goals as goal

pub returns : goal.returns
returns c = reach-of c.args.pages.now c.args.generation c.span_of-span.result.first c.span_of-span.result.end c.tag.result c.tag-2.result c.span_of-span.ensures.within
    (omega (arith, c.span_of-span.ensures.most, c.len.ensures, c.if-prove.false))
    c.tag.ensures c.tag-2.ensures
