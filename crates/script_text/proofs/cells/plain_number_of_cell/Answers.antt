use Rattle.std.proofs.Common.{◌≡◌, ◌≤◌, length, get_or, sym, arith}
use Rattle.script_text.proofs.Spelled.{plain_one, plain_two}
use Rattle.script_text.proofs.cells.plain_number_of_cell.Goals as goal

pub returns-then-ends_plainly : goal.returns-then-ends_plainly
returns-then-ends_plainly c =
    let long : 3 ≤ length c.args.rest.now = omega arith in
    let low : 48 ≤ get_or c.args.rest.now 0 0 = omega arith in
    let high : get_or c.args.rest.now 0 0 ≤ 57 = omega arith in
    let p = plain_one c.args.rest.now long low high (sym c.if-ends_plainly.ensures) in
    (1, p.0, p.1, c.split_at.ensures.back)

pub returns : goal.returns
returns c =
    let long : 3 ≤ length c.args.rest.now = omega arith in
    let one : get_or c.args.rest.now 0 0 ≡ 49 = omega arith in
    let low : 48 ≤ get_or c.args.rest.now 1 0 = omega arith in
    let high : get_or c.args.rest.now 1 0 ≤ 53 = omega arith in
    let p = plain_two c.args.rest.now long one low high (sym c.if-not-ends_plainly.ensures) in
    (2, p.0, p.1, c.split_at-2.ensures.back)
