use Rattle.std.proofs.Common.{◌∙◌, ap}
use Rattle.command_words.specs.Forms.{joined_seed, seed_of}
use Rattle.command_words.proofs.seeds.seed_joined.Goals as goal

pub returns-in_err-strip_prefix : goal.returns-in_err-strip_prefix
unfolding joined_seed
returns-in_err-strip_prefix c = rw c.in_err-strip_prefix.ensures.cases c.from_residual.ensures

pub returns : goal.returns
unfolding joined_seed
returns c = rw c.in_ok-strip_prefix.ensures.cases.0 (c.seed_in.ensures ∙ ap seed_of c.in_ok-strip_prefix.ensures.cases.1)
