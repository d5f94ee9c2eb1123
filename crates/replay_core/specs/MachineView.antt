-- What contracts see of a machine.
use Rattle.std.specs.Prelude.{ℕ, List}
use Rattle.heap_terms.specs.declared.phases.Phase.{Phase}
use Rattle.heap_terms.specs.declared.programs.Program.{Program}
use Rattle.heap_terms.specs.MachineTurns.{Configuration}
use Rattle.lisp_heap.specs.View.{View}

-- a World, the turn to collect, the words of the threads, and their phases
pub record MachineView : Type 0 where
  pub world : View
  pub turn : ℕ
  pub words : List ℕ
  pub phases : List Phase

-- the program that it runs
abbrev pub program_of : MachineView → Program
program_of m = m.world.program

-- the configuration of the word machine
abbrev pub configuration_of : MachineView → Configuration
configuration_of m = record { history = m.world.history; turn = m.turn; words = m.words; phases = m.phases }
