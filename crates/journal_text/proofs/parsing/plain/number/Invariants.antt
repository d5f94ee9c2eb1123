use Rattle.std.proofs.Common.{◌-◌, length}
use Rattle.journal_text.proofs.PlainFields.{Read}
use Rattle.journal_text.proofs.parsing.plain.number.Given as goal

abbrev pub invariant-loop-len : goal.invariant-loop-len
invariant-loop-len l = Read l.bytes l.len l.value

abbrev pub decreases-loop-len : goal.decreases-loop-len
decreases-loop-len l = length l.bytes - l.len
