-- What a call that reads a script answers: exactly what reading gives, unless memory ran out.
use Rattle.std.specs.Prelude.{◌≡◌, Result, Ok, Err}
use Rattle.heap_terms.specs.declared.programs.Program.{Program}
use Rattle.heap_terms.specs.ScriptReading.{Fault, LineFault, LimitFault}
use Rattle.script_text.specs.declared.faults.ScriptFault.{ScriptFault}
use Rattle.script_text.specs.declared.faults.ScriptFault.TheVariants as faults

-- a fault of the call is the one that reading gives; want of memory says nothing of the script
abbrev pub Fails : ScriptFault → Result Program Fault → Type 0
Fails (faults.Line number why) read = read ≡ Err (LineFault number why)
Fails (faults.Limit number kind) read = read ≡ Err (LimitFault number kind)
Fails faults.Memory read = Unit {0}

abbrev pub Gives : Result Program ScriptFault → Result Program Fault → Type 0
Gives (Ok program) read = read ≡ Ok program
Gives (Err fault) read = Fails fault read
