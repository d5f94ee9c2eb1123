use Rattle.std.proofs.Common.{length, ◌+◌, ◌≡◌}
use Rattle.script_text.specs.Left.{fields_left}
use Rattle.script_text.proofs.cursor.Cursor.has_fields.Given as goal

abbrev pub invariant-loop : goal.invariant-loop
invariant-loop l = l.counter + length (fields_left l.rest) ≡ length (fields_left l.self)
