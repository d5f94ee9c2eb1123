use Rattle.std.proofs.Common.{◌≡◌, ◌≤◌, length, get_or, arith}
use Rattle.script_text.proofs.Spelled.{stack_at, exact_at, shared_at}
use Rattle.script_text.proofs.cells.plain_cell.Goals as goal

pub returns-in-115 : goal.returns-in-115
returns-in-115 c =
    let long : 2 ≤ length c.args.rest.now = omega arith in
    let space : get_or c.args.rest.now 0 0 ≡ 32 = omega arith in
    stack_at c.args.rest.now c.split_at.result.1.now c.in_ok-n.after.now c.in_ok-n.n long space c.in-115.is c.split_at.ensures.back c.in_ok-n.ensures

pub returns-in-98 : goal.returns-in-98
returns-in-98 c =
    let long : 2 ≤ length c.args.rest.now = omega arith in
    let space : get_or c.args.rest.now 0 0 ≡ 32 = omega arith in
    exact_at c.args.rest.now c.split_at.result.1.now c.in_ok-n.after.now c.in_ok-n.n long space c.in-98.is c.split_at.ensures.back c.in_ok-n.ensures

pub returns-in-103 : goal.returns-in-103
returns-in-103 c =
    let long : 2 ≤ length c.args.rest.now = omega arith in
    let space : get_or c.args.rest.now 0 0 ≡ 32 = omega arith in
    shared_at c.args.rest.now c.split_at.result.1.now c.in_ok-n.after.now c.in_ok-n.n long space c.in-103.is c.split_at.ensures.back c.in_ok-n.ensures
