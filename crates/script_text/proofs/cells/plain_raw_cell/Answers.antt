use Rattle.std.proofs.Common.{◌≡◌, ◌≤◌, length, get_or, sym, arith}
use Rattle.script_text.proofs.Spelled.{raw_at}
use Rattle.script_text.proofs.cells.plain_raw_cell.Goals as goal

pub returns : goal.returns
returns c =
    let long : 4 ≤ length c.args.rest.now = omega arith in
    let space : get_or c.args.rest.now 0 0 ≡ 32 = omega arith in
    let kind : get_or c.args.rest.now 1 0 ≡ 114 = omega arith in
    let low : 48 ≤ get_or c.args.rest.now 2 0 = omega arith in
    let high : get_or c.args.rest.now 2 0 ≤ 55 = omega arith in
    raw_at c.args.rest.now c.split_at.result.1.now long space kind low high (sym c.if-not-ends_plainly.ensures) c.split_at.ensures.back
