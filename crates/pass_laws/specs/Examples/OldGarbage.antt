-- An object of an older generation keeps a young one, even when it is garbage itself.
use Rattle.std.specs.Prelude.{List, [], ◌∷◌, ◌++◌}
use Rattle.heap_terms.specs.declared.answers.Answer.TheVariants.{Done, Val, Placed}
use Rattle.heap_terms.specs.declared.cells.Cell.TheVariants.{Stack, Exact}
use Rattle.heap_terms.specs.declared.cells.Value.TheVariants as values
use Rattle.heap_terms.specs.declared.commands.Command.TheVariants.{NewCons, NewVector, MakeNil, Get, Put, Collect}
use Rattle.heap_terms.specs.declared.events.Event.{Event}
use Rattle.heap_terms.specs.declared.events.Event.TheVariants.{Did, Opened, Collected}
use Rattle.heap_terms.specs.declared.events.PassRecord.{PassRecord}
use Rattle.heap_terms.specs.declared.kinds.PageType.TheVariants as types
use Rattle.heap_terms.specs.declared.programs.Program.{Program}
use Rattle.heap_terms.specs.Passes.{IsPass}
use Rattle.pass_laws.specs.Examples.Making.{program, heap_at, quiet, moved, pinned}

abbrev pub script : Program
script = program 4 ((NewVector (Stack 0) 1 ∷ Collect 0 ∷ Collect 0 ∷ NewCons (Exact 0) (Exact 1) (Exact 1) ∷ Put (Stack 0) 0 (Exact 0)
    ∷ MakeNil (Exact 0) ∷ Collect 0 ∷ Get (Exact 2) (Stack 0) 0 ∷ MakeNil (Exact 2) ∷ MakeNil (Stack 0) ∷ Collect 0 ∷ []) ∷ [])

abbrev pub first : List Event
first = Opened 0 types.Boxed 0 1
    ∷ Did 0 (NewVector (Stack 0) 1) (Placed 0 0)
    ∷ Did 0 (Collect 0) Done ∷ []

abbrev pub told_first : PassRecord
told_first = record (quiet 0 0) { pins = pinned 0 0 ∷ []; kept = 1 }

abbrev pub second : List Event
second = first ++ Collected 0 0 (told_first ∷ []) ∷ Did 0 (Collect 0) Done ∷ []

abbrev pub told_second : PassRecord
told_second = record (quiet 0 1) { pins = pinned 0 0 ∷ []; kept = 1 }

abbrev pub third : List Event
third = second ++ Collected 0 0 (told_second ∷ [])
    ∷ Opened 0 types.Cons 1 1
    ∷ Did 0 (NewCons (Exact 0) (Exact 1) (Exact 1)) (Placed 1 512)
    ∷ Did 0 (Put (Stack 0) 0 (Exact 0)) Done
    ∷ Did 0 (MakeNil (Exact 0)) Done
    ∷ Did 0 (Collect 0) Done ∷ []

abbrev pub told_third : PassRecord
told_third = record (quiet 0 0) { moves = moved 1 512 1024 ∷ []; freed = 1 ∷ []; kept = 1 }

abbrev pub fourth : List Event
fourth = third ++ Collected 0 0 (told_third ∷ [])
    ∷ Did 0 (Get (Exact 2) (Stack 0) 0) (Val (values.Ref 1))
    ∷ Did 0 (MakeNil (Exact 2)) Done
    ∷ Did 0 (MakeNil (Stack 0)) Done
    ∷ Did 0 (Collect 0) Done ∷ []

abbrev pub told_fourth : PassRecord
told_fourth = record (quiet 0 1) { moves = moved 1 1024 512 ∷ []; freed = 2 ∷ []; kept = 1 }

abbrev pub Holds : Type 0
Holds = IsPass (heap_at script first) 0 0 told_first × IsPass (heap_at script second) 0 1 told_second
    × IsPass (heap_at script third) 0 0 told_third × IsPass (heap_at script fourth) 0 1 told_fourth
