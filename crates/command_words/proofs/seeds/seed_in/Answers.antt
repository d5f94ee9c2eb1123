use Rattle.std.proofs.Common.{◌≤◌, length, inl, inr, sym, ◌∙◌, arith, rules}
use Rattle.std.proofs.lemmas.Bool.{eqb-true}
use Rattle.command_words.proofs.Digits.{seed_said, no_seed}
use Rattle.command_words.proofs.seeds.seed_in.Goals as goal

pub returns-then-is_empty : goal.returns-then-is_empty
returns-then-is_empty c = no_seed c.args.digits.now (elim c.then-is_empty.either [
  | inl empty ↦ let none = eqb-true (length c.args.digits.now) 0 (sym c.is_empty.ensures ∙ empty) in inl (omega (arith, none))
  | inr many ↦ inr many.1
])

pub returns : goal.returns
returns c =
    let some : 1 ≤ length c.args.digits.now = search rules in
    c.value_of.ensures ∙ seed_said c.args.digits.now some c.if-digits-gt-MOST_DIGITS.false
