-- Two objects are held by ambiguous cells and keep their pages; the page of the third, which nothing holds, is freed.
use Rattle.std.specs.Prelude.{List, [], ◌∷◌}
use Rattle.heap_terms.specs.declared.answers.Answer.TheVariants.{Done, Placed}
use Rattle.heap_terms.specs.declared.cells.Cell.TheVariants.{Stack, Exact}
use Rattle.heap_terms.specs.declared.commands.Command.TheVariants.{NewCons, NewInstance, NewWords, MakeNil, Collect}
use Rattle.heap_terms.specs.declared.events.Event.{Event}
use Rattle.heap_terms.specs.declared.events.Event.TheVariants.{Did, Opened}
use Rattle.heap_terms.specs.declared.events.PassRecord.{PassRecord}
use Rattle.heap_terms.specs.declared.kinds.PageType.TheVariants as types
use Rattle.heap_terms.specs.declared.programs.Program.{Program}
use Rattle.heap_terms.specs.Passes.{IsPass}
use Rattle.pass_laws.specs.Examples.Making.{program, heap_at, quiet, pinned}

abbrev pub script : Program
script = program 4 ((NewCons (Stack 0) (Stack 1) (Stack 1) ∷ NewInstance (Exact 1) 1 ∷ NewWords (Stack 2) 1 0 ∷ MakeNil (Exact 1) ∷ Collect 0 ∷ []) ∷ [])

abbrev pub history : List Event
history = Opened 0 types.Cons 0 1
    ∷ Did 0 (NewCons (Stack 0) (Stack 1) (Stack 1)) (Placed 0 0)
    ∷ Opened 0 types.Boxed 1 1
    ∷ Did 0 (NewInstance (Exact 1) 1) (Placed 1 512)
    ∷ Opened 0 types.Unboxed 2 1
    ∷ Did 0 (NewWords (Stack 2) 1 0) (Placed 2 1024)
    ∷ Did 0 (MakeNil (Exact 1)) Done
    ∷ Did 0 (Collect 0) Done ∷ []

abbrev pub told : PassRecord
told = record (quiet 0 0) { pins = pinned 0 0 ∷ pinned 2 1024 ∷ []; freed = 1 ∷ []; dead = 1; kept = 2 }

abbrev pub Holds : Type 0
Holds = IsPass (heap_at script history) 0 0 told
