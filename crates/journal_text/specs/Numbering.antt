-- The fault of a line, with the line's number.
use Rattle.std.specs.Prelude.{ℕ}
use Rattle.heap_terms.specs.declared.faults.Why.TheVariants.{Form}
use Rattle.journal_text.specs.declared.faults.JournalFault.{JournalFault}
use Rattle.journal_text.specs.declared.faults.JournalFault.TheVariants as faults
use Rattle.journal_text.specs.declared.parsing.faults.LineFault.{LineFault}
use Rattle.journal_text.specs.declared.parsing.faults.LineFault.TheVariants as lines

abbrev pub fault_at : LineFault → ℕ → JournalFault
fault_at lines.Form number = faults.Line number Form
fault_at lines.Memory number = faults.Memory
