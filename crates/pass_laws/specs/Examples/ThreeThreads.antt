-- Three threads, shared cells and a table of weakness key: a pass over generation 0, then two collections of two passes
-- each, which raise what they keep. The last one culls the pair of a dead key.
use Rattle.std.specs.Prelude.{List, [], ◌∷◌, ◌++◌, pos}
use Rattle.heap_terms.specs.declared.answers.Answer.TheVariants.{Done, Val, Placed}
use Rattle.heap_terms.specs.declared.cells.Cell.TheVariants.{Stack, Exact, Shared}
use Rattle.heap_terms.specs.declared.cells.Value.TheVariants as values
use Rattle.heap_terms.specs.declared.commands.Command.TheVariants.{NewCons, NewTable, Fix, MakeNil, Collect, TablePut, TableGet}
use Rattle.heap_terms.specs.declared.events.Event.{Event}
use Rattle.heap_terms.specs.declared.events.Event.TheVariants.{Did, Opened, Collected, Ended}
use Rattle.heap_terms.specs.declared.events.PassRecord.{PassRecord}
use Rattle.heap_terms.specs.declared.kinds.PageType.TheVariants as types
use Rattle.heap_terms.specs.declared.kinds.Weakness.TheVariants as weaknesses
use Rattle.heap_terms.specs.declared.programs.Program.{Program}
use Rattle.heap_terms.specs.Passes.{IsPass, after_pass}
use Rattle.pass_laws.specs.Examples.Making.{program, heap_at, quiet, moved, culled}

abbrev pub script : Program
script = program 8 (
    (NewTable (Shared 0) weaknesses.Key 2 ∷ NewCons (Shared 1) (Exact 0) (Exact 0) ∷ Fix (Exact 1) (pos 11) ∷ TablePut (Shared 0) (Shared 1) (Exact 1) ∷ Collect 0 ∷ [])
    ∷ (NewCons (Exact 0) (Exact 1) (Exact 1) ∷ NewCons (Shared 2) (Exact 0) (Exact 0) ∷ TablePut (Shared 0) (Exact 0) (Shared 2) ∷ Collect 1 ∷ [])
    ∷ (TableGet (Stack 0) (Shared 0) (Shared 1) ∷ MakeNil (Shared 1) ∷ Collect 1 ∷ []) ∷ [])

abbrev pub first : List Event
first = Opened 0 types.Boxed 0 1
    ∷ Did 0 (NewTable (Shared 0) weaknesses.Key 2) (Placed 0 0)
    ∷ Opened 0 types.Cons 1 1
    ∷ Did 0 (NewCons (Shared 1) (Exact 0) (Exact 0)) (Placed 1 512)
    ∷ Did 0 (Fix (Exact 1) (pos 11)) Done
    ∷ Did 0 (TablePut (Shared 0) (Shared 1) (Exact 1)) Done
    ∷ Did 0 (Collect 0) Done ∷ []

abbrev pub told_first : PassRecord
told_first = record (quiet 0 0) { moves = moved 0 0 1024 ∷ moved 1 512 1536 ∷ []; freed = 0 ∷ 1 ∷ []; kept = 2 }

abbrev pub second : List Event
second = first ++ Collected 0 0 (told_first ∷ [])
    ∷ Ended 0
    ∷ Opened 1 types.Cons 0 1
    ∷ Did 1 (NewCons (Exact 0) (Exact 1) (Exact 1)) (Placed 2 0)
    ∷ Did 1 (NewCons (Shared 2) (Exact 0) (Exact 0)) (Placed 3 2)
    ∷ Did 1 (TablePut (Shared 0) (Exact 0) (Shared 2)) Done
    ∷ Did 1 (Collect 1) Done ∷ []

abbrev pub told_young : PassRecord
told_young = record (quiet 0 1) {
  moves = moved 0 1024 512 ∷ moved 1 1536 2048 ∷ moved 2 0 2050 ∷ moved 3 2 2052 ∷ [];
  freed = 0 ∷ 2 ∷ 3 ∷ [];
  kept = 4;
}

abbrev pub told_old : PassRecord
told_old = record (quiet 1 1) {
  moves = moved 0 512 0 ∷ moved 1 2048 1024 ∷ moved 2 2050 1026 ∷ moved 3 2052 1028 ∷ [];
  freed = 1 ∷ 4 ∷ [];
  kept = 4;
}

abbrev pub third : List Event
third = second ++ Collected 1 1 (told_young ∷ told_old ∷ [])
    ∷ Ended 1
    ∷ Did 2 (TableGet (Stack 0) (Shared 0) (Shared 1)) (Val (values.Fix (pos 11)))
    ∷ Did 2 (MakeNil (Shared 1)) Done
    ∷ Did 2 (Collect 1) Done ∷ []

abbrev pub told_last : PassRecord
told_last = record (quiet 1 2) {
  moves = moved 0 0 512 ∷ moved 2 1026 1536 ∷ moved 3 1028 1538 ∷ [];
  culls = culled 0 (values.Ref 1) (values.Fix (pos 11)) ∷ [];
  freed = 0 ∷ 2 ∷ [];
  dead = 1;
  kept = 3;
}

abbrev pub Holds : Type 0
Holds = IsPass (heap_at script first) 0 0 told_first
    × IsPass (heap_at script second) 0 1 told_young × IsPass (after_pass (heap_at script second) told_young) 1 1 told_old
    × IsPass (heap_at script third) 0 1 (quiet 0 1) × IsPass (after_pass (heap_at script third) (quiet 0 1)) 1 2 told_last
