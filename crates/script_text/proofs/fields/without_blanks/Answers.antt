use Rattle.std.proofs.Common.{sym, arith}
use Rattle.script_text.proofs.Lines.{blank_more}
use Rattle.script_text.proofs.fields.without_blanks.Goals as goal

pub loop-start-preserved : goal.loop-start-preserved
loop-start-preserved c = record {
  within = omega arith;
  same = blank_more c.args.bytes.now c.loop-start.start c.loop-start-test.true (sym c.if-parts_fields.ensures) c.loop-start.invariant.same;
}
