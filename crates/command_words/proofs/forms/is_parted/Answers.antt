use Rattle.std.proofs.Common.{◌∙◌, ap}
use Rattle.std.specs.Prelude.{is_some}
use Rattle.command_words.specs.Forms.{parted_seed, seed_of}
use Rattle.command_words.proofs.forms.is_parted.Goals as goal

pub returns-then-is : goal.returns-then-is
unfolding parted_seed
returns-then-is c = rw (← c.if-is.ensures) (c.is_some.ensures ∙ ap is_some (c.seed_in.ensures ∙ ap seed_of c.as_bytes.ensures.value))

pub returns-else-is : goal.returns-else-is
unfolding parted_seed
returns-else-is c = rw (← c.if-is.ensures) c.if-is.false
