-- A live key and four dead values, one in a table of each weakness: the key keeps its value in the tables of weakness key
-- and key-or-value, and its pair is culled from the two others.
use Rattle.std.specs.Prelude.{List, [], ◌∷◌}
use Rattle.heap_terms.specs.declared.answers.Answer.TheVariants.{Done, Placed}
use Rattle.heap_terms.specs.declared.cells.Cell.TheVariants.{Stack, Exact}
use Rattle.heap_terms.specs.declared.cells.Value.TheVariants as values
use Rattle.heap_terms.specs.declared.commands.Command.TheVariants.{NewCons, NewTable, MakeNil, Collect, TablePut}
use Rattle.heap_terms.specs.declared.events.Event.{Event}
use Rattle.heap_terms.specs.declared.events.Event.TheVariants.{Did, Opened}
use Rattle.heap_terms.specs.declared.events.PassRecord.{PassRecord}
use Rattle.heap_terms.specs.declared.kinds.PageType.TheVariants as types
use Rattle.heap_terms.specs.declared.kinds.Weakness.TheVariants as weaknesses
use Rattle.heap_terms.specs.declared.programs.Program.{Program}
use Rattle.heap_terms.specs.Passes.{IsPass}
use Rattle.pass_laws.specs.Examples.Making.{program, heap_at, quiet, moved, pinned, culled}

abbrev pub script : Program
script = program 8 ((NewTable (Stack 0) weaknesses.Key 1 ∷ NewTable (Stack 1) weaknesses.Value 1 ∷ NewTable (Stack 2) weaknesses.KeyAndValue 1
    ∷ NewTable (Stack 3) weaknesses.KeyOrValue 1 ∷ NewCons (Stack 4) (Exact 0) (Exact 0)
    ∷ NewCons (Stack 5) (Exact 0) (Exact 0) ∷ TablePut (Stack 0) (Stack 4) (Stack 5)
    ∷ NewCons (Stack 5) (Exact 0) (Exact 0) ∷ TablePut (Stack 1) (Stack 4) (Stack 5)
    ∷ NewCons (Stack 5) (Exact 0) (Exact 0) ∷ TablePut (Stack 2) (Stack 4) (Stack 5)
    ∷ NewCons (Stack 5) (Exact 0) (Exact 0) ∷ TablePut (Stack 3) (Stack 4) (Stack 5)
    ∷ MakeNil (Stack 5) ∷ Collect 0 ∷ []) ∷ [])

abbrev pub history : List Event
history = Opened 0 types.Boxed 0 1
    ∷ Did 0 (NewTable (Stack 0) weaknesses.Key 1) (Placed 0 0)
    ∷ Did 0 (NewTable (Stack 1) weaknesses.Value 1) (Placed 1 8)
    ∷ Did 0 (NewTable (Stack 2) weaknesses.KeyAndValue 1) (Placed 2 16)
    ∷ Did 0 (NewTable (Stack 3) weaknesses.KeyOrValue 1) (Placed 3 24)
    ∷ Opened 0 types.Cons 1 1
    ∷ Did 0 (NewCons (Stack 4) (Exact 0) (Exact 0)) (Placed 4 512)
    ∷ Did 0 (NewCons (Stack 5) (Exact 0) (Exact 0)) (Placed 5 514)
    ∷ Did 0 (TablePut (Stack 0) (Stack 4) (Stack 5)) Done
    ∷ Did 0 (NewCons (Stack 5) (Exact 0) (Exact 0)) (Placed 6 516)
    ∷ Did 0 (TablePut (Stack 1) (Stack 4) (Stack 5)) Done
    ∷ Did 0 (NewCons (Stack 5) (Exact 0) (Exact 0)) (Placed 7 518)
    ∷ Did 0 (TablePut (Stack 2) (Stack 4) (Stack 5)) Done
    ∷ Did 0 (NewCons (Stack 5) (Exact 0) (Exact 0)) (Placed 8 520)
    ∷ Did 0 (TablePut (Stack 3) (Stack 4) (Stack 5)) Done
    ∷ Did 0 (MakeNil (Stack 5)) Done
    ∷ Did 0 (Collect 0) Done ∷ []

abbrev pub told : PassRecord
told = record (quiet 0 0) {
  moves = moved 5 514 1024 ∷ moved 8 520 1026 ∷ [];
  pins = pinned 0 0 ∷ pinned 1 8 ∷ pinned 2 16 ∷ pinned 3 24 ∷ pinned 4 512 ∷ [];
  culls = culled 1 (values.Ref 4) (values.Ref 6) ∷ culled 2 (values.Ref 4) (values.Ref 7) ∷ [];
  dead = 2;
  kept = 7;
}

abbrev pub Holds : Type 0
Holds = IsPass (heap_at script history) 0 0 told
