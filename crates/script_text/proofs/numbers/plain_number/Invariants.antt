use Rattle.std.proofs.Common.{◌-◌, length}
use Rattle.script_text.proofs.Numbered.{Read}
use Rattle.script_text.proofs.numbers.plain_number.Given as goal

abbrev pub invariant-loop-len : goal.invariant-loop-len
invariant-loop-len l = Read l.rest l.len l.value

abbrev pub decreases-loop-len : goal.decreases-loop-len
decreases-loop-len l = length l.rest - l.len
