-- What is printed is read again.
use Rattle.std.specs.Prelude.{◌≡◌, Ok}
use Rattle.heap_terms.specs.declared.programs.Program.{Program}
use Rattle.heap_terms.specs.ScriptPrinting.{program_text}
use Rattle.heap_terms.specs.ScriptReading.{read_script}
use Rattle.heap_terms.specs.Valid.{IsValid}

-- the text of a valid program is read as that program
abbrev pub PrintedScriptsAreRead : Type 0
PrintedScriptsAreRead = (p : Program) → IsValid p → read_script (program_text p) ≡ Ok p
