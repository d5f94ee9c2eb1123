use Rattle.std.proofs.Common.{◌<◌, length, drop, Some, ap, sym, ◌∙◌, arith, add-one}
use Rattle.journal_text.proofs.Cuts.{cut_none, cut_some}
use Rattle.journal_text.proofs.Values.{next_byte}
use Rattle.journal_text.proofs.parsing.items.cut.Goals as goal

pub returns-then-len-bytes : goal.returns-then-len-bytes
returns-then-len-bytes c = cut_none 64 c.args.bytes.now (λ k lt. c.place_of_at-len.ensures.before k (omega arith))

pub returns : goal.returns
returns c =
    let len = c.place_of_at-len.result in
    let bytes = c.args.bytes.now in
    let within : len < length bytes = omega (arith, c.place_of_at-len.ensures.within) in
    cut_some 64 bytes len within c.place_of_at-len.ensures.before (c.place_of_at-len.ensures.found within)
    ∙ (λ i. Some (sym c.split_at.ensures.front i, sym (c.split_at-2.ensures.back ∙ ap (drop 1) (c.split_at.ensures.back ∙ next_byte bytes len within) ∙ ap (λ n. drop n bytes) (add-one len)) i))
