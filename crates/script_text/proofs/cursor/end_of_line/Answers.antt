use Rattle.std.proofs.Common.{arith}
use Rattle.script_text.proofs.Lines.{line_more}
use Rattle.script_text.proofs.cursor.end_of_line.Goals as goal

pub loop-at-preserved : goal.loop-at-preserved
loop-at-preserved c = record {
  within = omega arith;
  so_far = line_more c.args.bytes.now c.loop-at.at c.loop-at-test.true c.if-bytes-at-ne10.true c.loop-at.invariant.so_far;
}
