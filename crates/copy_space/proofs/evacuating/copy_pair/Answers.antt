-- A write of two words that were read makes the copy of them.
use Rattle.copy_space.proofs.Copies.{copied-pair}
use Rattle.copy_space.proofs.evacuating.copy_pair.Goals as goal

pub returns : goal.returns
returns c =
    rw (c.write_pair.ensures, c.read_pair-first.ensures.first, c.read_pair-first.ensures.second)
    (copied-pair c.args.space.now c.args.from c.args.to (record { from_within = c.requires.from_within; to_within = c.requires.to_within }))
