use Rattle.std.proofs.Common.{sym, arith}
use Rattle.script_text.proofs.Lines.{field_more, field_all, field_past}
use Rattle.script_text.proofs.fields.len_of_field.Goals as goal

pub loop-len-preserved : goal.loop-len-preserved
loop-len-preserved c = record {
  within = omega arith;
  so_far = field_more c.args.bytes.now c.loop-len.len c.loop-len-test.true (sym c.if-not-field_ends_at.ensures) c.loop-len.invariant.so_far;
}

pub returns-else-not-field_ends_at : goal.returns-else-not-field_ends_at
returns-else-not-field_ends_at c = field_all c.args.bytes.now c.loop-len.len (sym c.if-not-field_ends_at.ensures) c.loop-len.invariant.so_far

pub returns-after-loop-len : goal.returns-after-loop-len
returns-after-loop-len c = field_past c.args.bytes.now c.loop-len.len c.loop-len-test.false c.loop-len.invariant.so_far
