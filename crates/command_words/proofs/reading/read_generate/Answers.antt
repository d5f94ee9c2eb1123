use Rattle.std.proofs.Common.{◌≡◌, ◌∙◌, sym, ap, map, codes, Bool, Some, Option}
use Rattle.std.specs.Prelude.{is_some, option_and_then}
use Rattle.std.specs.String.{string_bytes}
use Rattle.clap.specs.Words.{first_of, found_of, one_of, one_text}
use Rattle.clap.proofs.WalkLemmas.{one_text-rows}
use Rattle.command_words.specs.Forms.{Generate, generating, seed_of}
use Rattle.command_words.proofs.Matched.{flag_is, flag_text, read}
use Rattle.command_words.proofs.reading.read_generate.Goals as goal

pub unwrap-requires : goal.unwrap-requires
unwrap-requires c =
    let words = map string_bytes c.args.words.now in
    let said = read words c.requires in
    let seed : c.seed_matched.result ≡ seed_of said.digits =
    c.seed_matched.ensures ∙ ap (λ rows. option_and_then seed_of (first_of (codes "seed") rows)) c.in-Ok.ensures.matches ∙ ap (option_and_then seed_of) said.finds.seed in
    ap is_some seed ∙ said.some

pub returns-in-Ok : goal.returns-in-Ok
returns-in-Ok c =
    let words = map string_bytes c.args.words.now in
    let said = read words c.requires in
    let seed : c.seed_matched.result ≡ seed_of said.digits =
    c.seed_matched.ensures ∙ ap (λ rows. option_and_then seed_of (first_of (codes "seed") rows)) c.in-Ok.ensures.matches ∙ ap (option_and_then seed_of) said.finds.seed in
    let flag : one_text (found_of c.in-Ok.matches) (codes "script") ≡ Some (flag_text said.script) =
    one_text-rows (found_of c.in-Ok.matches) (codes "script") ∙ ap (one_of (codes "script")) c.in-Ok.ensures.matches ∙ said.finds.flag in
    let script : c.get_flag.result ≡ said.script =
    flag_is said.script c.get_flag.result (one_text (found_of c.in-Ok.matches) (codes "script")) flag c.get_flag.ensures.value c.get_flag.ensures.other in
    let generate : Bool → Option Generate = λ b. Some (record { seed = c.unwrap.result; script = b }) in
    said.is ∙ ap (generating said.script) (sym seed ∙ c.unwrap.ensures) ∙ ap generate (sym script)
