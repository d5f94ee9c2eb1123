use Rattle.std.proofs.Common.{◌∙◌, ap, codes}
use Rattle.std.specs.Prelude.{option_and_then}
use Rattle.clap.proofs.WalkLemmas.{first_value-rows}
use Rattle.clap.specs.Words.{found_of}
use Rattle.command_words.specs.Forms.{seed_of}
use Rattle.command_words.proofs.reading.seed_matched.Goals as goal

pub returns-in_err-get_str : goal.returns-in_err-get_str
returns-in_err-get_str c =
    c.from_residual.ensures ∙ ap (option_and_then seed_of) (c.in_err-get_str.ensures ∙ first_value-rows (found_of c.args.matches.now) (codes "seed"))

pub returns : goal.returns
returns c =
    c.seed_in.ensures ∙ ap seed_of c.as_bytes.ensures.value
    ∙ ap (option_and_then seed_of) (c.in_ok-get_str.ensures ∙ first_value-rows (found_of c.args.matches.now) (codes "seed"))
