-- The command of the generator as `clap` sees it.
use Rattle.std.specs.Prelude.{Some, true, codes}
use Rattle.clap.specs.declared.builder.ArgAction.TheVariants.{Set, SetTrue}
use Rattle.clap.specs.Words.{App, Rule, new_app, new_rule, with_rule}

-- `--seed N` or `--seed=N`, which has to be there
abbrev pub seed_rule : Rule
seed_rule = record (new_rule (codes "seed")) { long = Some (codes "seed"); required = true; action = Some Set }

-- `--script`, which takes no value
abbrev pub script_rule : Rule
script_rule = record (new_rule (codes "script")) { long = Some (codes "script"); action = Some SetTrue }

unfoldable pub generator : App
generator = with_rule (with_rule (new_app (codes "gen")) seed_rule) script_rule
