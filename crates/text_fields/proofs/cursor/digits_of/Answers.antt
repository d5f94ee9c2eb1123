use Rattle.std.proofs.Common.{arith}
use Rattle.text_fields.proofs.ThreeDigits.{count_at}
use Rattle.text_fields.proofs.cursor.digits_of.Goals as goal

pub overflow_sub-result : goal.overflow_sub-result
overflow_sub-result c = omega (arith, c.byte_at.ensures, count_at c.args.n c.requires)

pub returns : goal.returns
returns c = omega (arith, c.byte_at.ensures, count_at c.args.n c.requires)
