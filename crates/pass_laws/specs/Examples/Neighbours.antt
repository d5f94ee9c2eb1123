-- Of two neighbours on a page one is held by an ambiguous cell, so it is pinned and the other moves; the page stays.
use Rattle.std.specs.Prelude.{List, [], ◌∷◌}
use Rattle.heap_terms.specs.declared.answers.Answer.TheVariants.{Done, Placed}
use Rattle.heap_terms.specs.declared.cells.Cell.TheVariants.{Stack, Exact}
use Rattle.heap_terms.specs.declared.commands.Command.TheVariants.{NewCons, Collect}
use Rattle.heap_terms.specs.declared.events.Event.{Event}
use Rattle.heap_terms.specs.declared.events.Event.TheVariants.{Did, Opened}
use Rattle.heap_terms.specs.declared.events.PassRecord.{PassRecord}
use Rattle.heap_terms.specs.declared.kinds.PageType.TheVariants as types
use Rattle.heap_terms.specs.declared.programs.Program.{Program}
use Rattle.heap_terms.specs.Passes.{IsPass}
use Rattle.pass_laws.specs.Examples.Making.{program, heap_at, quiet, moved, pinned}

abbrev pub script : Program
script = program 4 ((NewCons (Stack 0) (Exact 0) (Exact 0) ∷ NewCons (Exact 1) (Stack 0) (Exact 0) ∷ Collect 0 ∷ []) ∷ [])

abbrev pub history : List Event
history = Opened 0 types.Cons 0 1
    ∷ Did 0 (NewCons (Stack 0) (Exact 0) (Exact 0)) (Placed 0 0)
    ∷ Did 0 (NewCons (Exact 1) (Stack 0) (Exact 0)) (Placed 1 2)
    ∷ Did 0 (Collect 0) Done ∷ []

abbrev pub told : PassRecord
told = record (quiet 0 0) { moves = moved 1 2 512 ∷ []; pins = pinned 0 0 ∷ []; kept = 2 }

abbrev pub Holds : Type 0
Holds = IsPass (heap_at script history) 0 0 told
