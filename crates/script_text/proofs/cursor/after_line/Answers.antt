use Rattle.std.proofs.Common.{◌∙◌, ap}
use Rattle.std.specs.Str.Lines.{lines}
use Rattle.script_text.proofs.Lines.{line_ends, line_past}
use Rattle.script_text.proofs.cursor.after_line.Goals as goal

pub returns-then-end-bytes : goal.returns-then-end-bytes
returns-then-end-bytes c = ap lines c.split_at.ensures.back ∙ line_ends c.args.bytes.now c.end_of_line-end.result c.if-end-bytes.true (c.end_of_line-end.ensures.lf c.if-end-bytes.true) c.end_of_line-end.ensures.same

pub returns : goal.returns
returns c = ap lines c.split_at-2.ensures.back ∙ line_past c.args.bytes.now c.end_of_line-end.result c.if-end-bytes.false c.end_of_line-end.ensures.same
