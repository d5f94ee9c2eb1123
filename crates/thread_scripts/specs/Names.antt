-- The program of a name that nobody picked. This project's own.
use Rattle.std.specs.Prelude.{[]}
use Rattle.heap_terms.specs.declared.programs.Program.{Program}

abbrev pub no_program : Program
no_program = record { pages = 0; auto = 0; threads = []; schedule = [] }
