use Rattle.std.proofs.Common.{◌≡◌, ◌≤◌, length, get_or, sym, arith}
use Rattle.script_text.proofs.Spelled.{digit_taken}
use Rattle.script_text.proofs.turns.plain_digit.Goals as goal

pub returns : goal.returns
returns c =
    let long : 3 ≤ length c.args.rest.now = omega arith in
    let space : get_or c.args.rest.now 0 0 ≡ 32 = omega arith in
    let low : 48 ≤ get_or c.args.rest.now 1 0 = omega arith in
    (omega arith, rw c.split_at.ensures.back (digit_taken c.args.rest.now long space low (sym c.if-not-ends_plainly.ensures)))
