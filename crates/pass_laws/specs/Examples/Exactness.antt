-- Held by an exact cell alone an object moves; held by an ambiguous cell too it does not, and rises by one generation in
-- its place.
use Rattle.std.specs.Prelude.{List, [], ◌∷◌, ◌++◌}
use Rattle.heap_terms.specs.declared.answers.Answer.TheVariants.{Done, Word, Placed}
use Rattle.heap_terms.specs.declared.cells.Cell.TheVariants.{Stack, Exact}
use Rattle.heap_terms.specs.declared.commands.Command.TheVariants.{NewCons, Move, Addr, SetRaw, Collect}
use Rattle.heap_terms.specs.declared.events.Event.{Event}
use Rattle.heap_terms.specs.declared.events.Event.TheVariants.{Did, Opened, Collected}
use Rattle.heap_terms.specs.declared.events.PassRecord.{PassRecord}
use Rattle.heap_terms.specs.declared.kinds.PageType.TheVariants as types
use Rattle.heap_terms.specs.declared.programs.Program.{Program}
use Rattle.heap_terms.specs.Passes.{IsPass}
use Rattle.pass_laws.specs.Examples.Making.{program, heap_at, quiet, moved, pinned}

abbrev pub script : Program
script = program 4 ((NewCons (Exact 0) (Exact 1) (Exact 1) ∷ Addr (record { 0 = 0 }) (Exact 0) ∷ SetRaw (record { 0 = 0 }) 0 ∷ Collect 0
    ∷ Addr (record { 0 = 1 }) (Exact 0) ∷ Move (Stack 0) (Exact 0) ∷ SetRaw (record { 0 = 1 }) 0 ∷ Collect 0 ∷ []) ∷ [])

abbrev pub history : List Event
history = Opened 0 types.Cons 0 1
    ∷ Did 0 (NewCons (Exact 0) (Exact 1) (Exact 1)) (Placed 0 0)
    ∷ Did 0 (Addr (record { 0 = 0 }) (Exact 0)) (Word 0x1000000007)
    ∷ Did 0 (SetRaw (record { 0 = 0 }) 0) Done
    ∷ Did 0 (Collect 0) Done ∷ []

abbrev pub told : PassRecord
told = record (quiet 0 0) { moves = moved 0 0 512 ∷ []; freed = 0 ∷ []; kept = 1 }

abbrev pub later : List Event
later = history ++ Collected 0 0 (told ∷ [])
    ∷ Did 0 (Addr (record { 0 = 1 }) (Exact 0)) (Word 0x1000001007)
    ∷ Did 0 (Move (Stack 0) (Exact 0)) Done
    ∷ Did 0 (SetRaw (record { 0 = 1 }) 0) Done
    ∷ Did 0 (Collect 0) Done ∷ []

abbrev pub told_later : PassRecord
told_later = record (quiet 0 1) { pins = pinned 0 512 ∷ []; kept = 1 }

abbrev pub Holds : Type 0
Holds = IsPass (heap_at script history) 0 0 told × IsPass (heap_at script later) 0 1 told_later
