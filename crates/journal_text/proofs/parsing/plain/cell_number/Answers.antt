use Rattle.std.proofs.Common.{◌≡◌, ◌≤◌, length, get_or, arith}
use Rattle.journal_text.proofs.PlainFields.{one_digit, two_digits}
use Rattle.journal_text.proofs.parsing.plain.cell_number.Goals as goal

pub returns-then-second-lt48-clause-text : goal.returns-then-second-lt48-clause-text
returns-then-second-lt48-clause-text c =
    let long : 2 ≤ length c.args.bytes.now = omega arith in
    let low : 48 ≤ get_or c.args.bytes.now 0 0 = omega arith in
    let high : get_or c.args.bytes.now 0 0 ≤ 57 = omega arith in
    one_digit c.args.bytes.now c.split_at.result.1.now long low high c.split_at.ensures.back

pub returns-clause-text : goal.returns-clause-text
returns-clause-text c =
    let long : 2 ≤ length c.args.bytes.now = omega arith in
    let one : get_or c.args.bytes.now 0 0 ≡ 49 = omega arith in
    let low : 48 ≤ get_or c.args.bytes.now 1 0 = omega arith in
    let high : get_or c.args.bytes.now 1 0 ≤ 53 = omega arith in
    two_digits c.args.bytes.now c.split_at-2.result.1.now long one low high c.split_at-2.ensures.back
