use Rattle.std.proofs.Common.{rules, ap, ap₂, map, ◌≡◌, ◌∙◌}
use Rattle.std.proofs.lemmas.Result.{IfErr-weaker, IfOk-weaker}
use Rattle.std.specs.String.{string_bytes}
use Rattle.clap.specs.Words.{app_of, is_simple, matches_of, rule_of, takes, with_rule}
use Rattle.command_words.specs.Matching.{generator, script_rule, seed_rule}
use Rattle.command_words.proofs.Matched.{generator_is_simple, read}
use Rattle.command_words.proofs.reading.matches.Goals as goal

pub returns : goal.returns
unfolding generator
returns c =
    let seed_is : rule_of c.action-seed.result ≡ seed_rule = search rules in
    let script_is : rule_of c.action-script.result ≡ script_rule = search rules in
    let command_is : app_of c.in_ok-command.command ≡ generator = c.in_ok-command.ensures.shape (search rules)
    ∙ ap₂ with_rule (c.in_ok-arg.ensures.shape (search rules) ∙ ap₂ with_rule c.new-3.ensures.app seed_is) script_is in
    let parse = c.try_get_matches_from in
    let words = map string_bytes c.args.words.now in
    record {
      matches = IfOk-weaker parse.result _ _ (λ m h. (h (ap is_simple command_is ∙ generator_is_simple)).0 ∙ ap (λ a. matches_of a words) command_is) parse.ensures.matches;
      memory = IfErr-weaker parse.result _ _ (λ e h. h (ap (λ a. takes a words) command_is ∙ (read words c.requires).finds.taken)) parse.ensures.passes;
    }
