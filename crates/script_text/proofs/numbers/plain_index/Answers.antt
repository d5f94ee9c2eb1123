use Rattle.std.proofs.Common.{◌≤◌, length, arith}
use Rattle.script_text.proofs.Numbered.{index_read}
use Rattle.script_text.proofs.numbers.plain_index.Goals as goal

pub returns : goal.returns
returns c =
    let long : 1 ≤ length c.args.rest.now = grind arith in
    index_read c.args.rest.now c.split_at.result.1.now c.in_ok-n.after.now c.in_ok-n.n long c.if-rest-ne32.false c.split_at.ensures.back (omega arith) c.in_ok-n.ensures
