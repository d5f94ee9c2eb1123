-- The fault of a line, with the line's number.
use Rattle.std.specs.Prelude.{ℕ}
use Rattle.script_text.specs.declared.faults.LineFault.{LineFault}
use Rattle.script_text.specs.declared.faults.LineFault.TheVariants as lines
use Rattle.script_text.specs.declared.faults.ScriptFault.{ScriptFault}
use Rattle.script_text.specs.declared.faults.ScriptFault.TheVariants as faults

abbrev pub fault_of_line : LineFault → ℕ → ScriptFault
fault_of_line (lines.Bad why) number = faults.Line number why
fault_of_line (lines.Over kind) number = faults.Limit number kind
fault_of_line lines.Memory number = faults.Memory
