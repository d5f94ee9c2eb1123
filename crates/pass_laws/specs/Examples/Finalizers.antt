-- The finalizers of a dead object are queued in the order of their registration; those that were cancelled are not.
use Rattle.std.specs.Prelude.{List, [], ◌∷◌}
use Rattle.heap_terms.specs.declared.answers.Answer.TheVariants.{Done, Count, Placed}
use Rattle.heap_terms.specs.declared.cells.Cell.TheVariants.{Exact}
use Rattle.heap_terms.specs.declared.commands.Command.TheVariants.{NewCons, MakeNil, Collect, Finalize, Cancel}
use Rattle.heap_terms.specs.declared.events.Event.{Event}
use Rattle.heap_terms.specs.declared.events.Event.TheVariants.{Did, Opened}
use Rattle.heap_terms.specs.declared.events.PassRecord.{PassRecord}
use Rattle.heap_terms.specs.declared.kinds.PageType.TheVariants as types
use Rattle.heap_terms.specs.declared.programs.Program.{Program}
use Rattle.heap_terms.specs.Passes.{IsPass}
use Rattle.pass_laws.specs.Examples.Making.{program, heap_at, quiet}

abbrev pub script : Program
script = program 2 ((NewCons (Exact 0) (Exact 1) (Exact 1) ∷ NewCons (Exact 2) (Exact 1) (Exact 1) ∷ Finalize (Exact 0) 7 ∷ Finalize (Exact 0) 8
    ∷ Finalize (Exact 2) 9 ∷ Cancel (Exact 2) ∷ MakeNil (Exact 0) ∷ MakeNil (Exact 2) ∷ Collect 0 ∷ []) ∷ [])

abbrev pub history : List Event
history = Opened 0 types.Cons 0 1
    ∷ Did 0 (NewCons (Exact 0) (Exact 1) (Exact 1)) (Placed 0 0)
    ∷ Did 0 (NewCons (Exact 2) (Exact 1) (Exact 1)) (Placed 1 2)
    ∷ Did 0 (Finalize (Exact 0) 7) Done
    ∷ Did 0 (Finalize (Exact 0) 8) Done
    ∷ Did 0 (Finalize (Exact 2) 9) Done
    ∷ Did 0 (Cancel (Exact 2)) (Count 1)
    ∷ Did 0 (MakeNil (Exact 0)) Done
    ∷ Did 0 (MakeNil (Exact 2)) Done
    ∷ Did 0 (Collect 0) Done ∷ []

abbrev pub told : PassRecord
told = record (quiet 0 0) { queued = 7 ∷ 8 ∷ []; freed = 0 ∷ []; dead = 2 }

abbrev pub Holds : Type 0
Holds = IsPass (heap_at script history) 0 0 told
