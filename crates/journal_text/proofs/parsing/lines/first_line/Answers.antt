use Rattle.std.proofs.Common.{◌<◌, ◌∷◌, ◌++◌, length, drop, ap, sym, ◌∙◌, subst, arith, take_all}
use Rattle.journal_text.specs.Journals.{HasNoLf}
use Rattle.journal_text.proofs.Ends.{no_lf_before, line_whole}
use Rattle.journal_text.proofs.Values.{next_byte}
use Rattle.journal_text.proofs.parsing.lines.first_line.Goals as goal

pub returns-then-len-bytes : goal.returns-then-len-bytes
returns-then-len-bytes c =
    let len = c.end_of_line-len.result in
    let bytes = c.args.bytes.now in
    subst HasNoLf (take_all len bytes (omega arith)) (no_lf_before bytes len (omega arith) c.end_of_line-len.ensures.before)

pub returns : goal.returns
returns c =
    let len = c.end_of_line-len.result in
    let bytes = c.args.bytes.now in
    let within : len < length bytes = omega (arith, c.end_of_line-len.ensures.within) in (
      subst HasNoLf (sym c.split_at.ensures.front) (no_lf_before bytes len (omega arith) c.end_of_line-len.ensures.before),
      line_whole bytes len within (c.end_of_line-len.ensures.found within)
          ∙ (λ i. sym c.split_at.ensures.front i ++ (10 ∷ sym (c.split_at-2.ensures.back ∙ ap (drop 1) (c.split_at.ensures.back ∙ next_byte bytes len within)) i)),
    )
