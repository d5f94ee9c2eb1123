-- Space runs out within a pass: an object for which no page is left stays, and a smaller one still goes after the first.
use Rattle.std.specs.Prelude.{List, [], ◌∷◌}
use Rattle.heap_terms.specs.declared.answers.Answer.TheVariants.{Done, Placed}
use Rattle.heap_terms.specs.declared.cells.Cell.TheVariants.{Exact}
use Rattle.heap_terms.specs.declared.commands.Command.TheVariants.{NewVector, Collect}
use Rattle.heap_terms.specs.declared.events.Event.{Event}
use Rattle.heap_terms.specs.declared.events.Event.TheVariants.{Did, Opened}
use Rattle.heap_terms.specs.declared.events.PassRecord.{PassRecord}
use Rattle.heap_terms.specs.declared.kinds.PageType.TheVariants as types
use Rattle.heap_terms.specs.declared.programs.Program.{Program}
use Rattle.heap_terms.specs.Passes.{IsPass}
use Rattle.pass_laws.specs.Examples.Making.{program, heap_at, quiet, moved, stayed}

abbrev pub script : Program
script = program 3 ((NewVector (Exact 0) 399 ∷ NewVector (Exact 1) 399 ∷ NewVector (Exact 2) 9 ∷ Collect 0 ∷ []) ∷ [])

abbrev pub history : List Event
history = Opened 0 types.Boxed 0 1
    ∷ Did 0 (NewVector (Exact 0) 399) (Placed 0 0)
    ∷ Opened 0 types.Boxed 1 1
    ∷ Did 0 (NewVector (Exact 1) 399) (Placed 1 512)
    ∷ Did 0 (NewVector (Exact 2) 9) (Placed 2 912)
    ∷ Did 0 (Collect 0) Done ∷ []

abbrev pub told : PassRecord
told = record (quiet 0 0) { moves = moved 0 0 1024 ∷ stayed 1 512 ∷ moved 2 912 1424 ∷ []; freed = 0 ∷ []; kept = 3 }

abbrev pub Holds : Type 0
Holds = IsPass (heap_at script history) 0 0 told
