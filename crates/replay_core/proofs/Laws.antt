-- What is needed of lawful histories of valid programs.
use Rattle.std.proofs.Common.{◌<◌, ◌^◌, List, length, arith}
use Rattle.heap_terms.specs.declared.events.Event.{Event}
use Rattle.heap_terms.specs.declared.programs.Program.{Program}
use Rattle.heap_terms.specs.Histories.{Lawful}
use Rattle.heap_terms.specs.Valid.{IsValid}
use Rattle.heap_laws.proofs.NextEvents.{history_few}

-- a history is short
pub history_most : (p : Program) (h : List Event) → IsValid p → Lawful p h → length h < 2 ^ 32
history_most p h valid lawful = let most = history_few p h valid lawful in omega arith
