use Rattle.std.proofs.Common.{◌≡◌, ℤ, pos, ◌-ℤ◌, to_z, of_z, w64, sym, subst, arith}
use Rattle.std.specs.Prelude.{neg_ℤ}
use Rattle.std.proofs.lemmas.Int.{ints}
use Rattle.script_text.specs.Commands.{Reads, a_fixnum}
use Rattle.script_text.proofs.Numbered.{fixnum_read, fixnum_read_signed}
use Rattle.script_text.proofs.numbers.plain_fixnum.Goals as goal

pub returns-then-rest-eq45 : goal.returns-then-rest-eq45
returns-then-rest-eq45 c =
    let v = c.in_ok-n.n in
    let after = c.in_ok-n.after.now in
    let same : to_z w64 (of_z w64 (pos 0 -ℤ to_z w64 v)) ≡ neg_ℤ (pos v) = omega (arith, ints, c.in_ok-n.ensures.small) in
    subst (λ (z : ℤ). Reads a_fixnum c.args.rest.now z after) (sym same)
    (fixnum_read_signed c.args.rest.now c.split_at.result.1.now after v (omega arith) c.if-rest-ne32.false c.if-rest-eq45.true c.split_at.ensures.back c.in_ok-n.ensures)

pub returns : goal.returns
returns c =
    let v = c.in_ok-n-2.n in
    let after = c.in_ok-n-2.after.now in
    let same : to_z w64 v ≡ pos v = omega (arith, ints, c.in_ok-n-2.ensures.small) in
    subst (λ (z : ℤ). Reads a_fixnum c.args.rest.now z after) (sym same)
    (fixnum_read c.args.rest.now c.split_at-2.result.1.now after v (omega arith) c.if-rest-ne32.false c.if-rest-eq45.false c.split_at-2.ensures.back c.in_ok-n-2.ensures)
