use Rattle.std.proofs.Common.{arith}
use Rattle.script_text.proofs.Lines.{field_len-le, none_at, taken_at}
use Rattle.script_text.proofs.cursor.Cursor.next_field.Goals as goal

pub split_at-requires : goal.split_at-requires
split_at-requires c = omega (arith, field_len-le c.without_blanks-rest.result.now)

pub returns-then-len-eq0 : goal.returns-then-len-eq0
returns-then-len-eq0 c =
    rw (c.split_at.ensures.back, ← c.self.view_is) (none_at c.self.inside.rest.now c.without_blanks-rest.result.now c.len_of_field-len.result c.without_blanks-rest.ensures.same c.without_blanks-rest.ensures.solid c.len_of_field-len.ensures c.if-len-eq0.true)

pub returns : goal.returns
returns c =
    rw (c.split_at.ensures.front, c.split_at.ensures.back, ← c.self.view_is) (taken_at c.self.inside.rest.now c.without_blanks-rest.result.now c.len_of_field-len.result c.without_blanks-rest.ensures.same c.len_of_field-len.ensures c.if-len-eq0.false)
