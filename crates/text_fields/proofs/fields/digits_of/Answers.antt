use Rattle.std.proofs.Common.{◌-◌, ◌/◌, ◌++◌, ap, sym, ◌∙◌, arith, length-set}
use Rattle.heap_terms.specs.Text.{hex_digits}
use Rattle.text_fields.proofs.Digits.{last_digit, no_digit, first_place}
use Rattle.text_fields.proofs.fields.digits_of.Goals as goal

pub loop-k-preserved : goal.loop-k-preserved
loop-k-preserved c =
    let k = c.loop-k.k in
    let left = c.loop-k.left in
    let digits = c.loop-k.digits in
    record {
      within = omega arith;
      full = length-set digits (k - 1) c.digit.result ∙ c.loop-k.invariant.full;
      so_far = c.loop-k.invariant.so_far ∙ last_digit (k - 1) k left _ (omega arith)
          ∙ ap (λ x. hex_digits (k - 1) (left / 16) ++ x)
          (sym (first_place digits (k - 1) k _ _ (omega arith) (omega arith) c.digit.ensures));
    }

pub returns : goal.returns
returns c = sym (c.loop-k.invariant.so_far ∙ no_digit c.loop-k.k c.loop-k.left c.loop-k.digits (omega arith))
