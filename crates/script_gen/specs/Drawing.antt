-- How far a generation is, as the definitions see it.
use Rattle.std.specs.Prelude.{◌≡◌, ℕ}
use Rattle.heap_terms.specs.declared.commands.Command.{Command}
use Rattle.heap_terms.specs.Generated.{Drawn, Progress, state_after}
use Rattle.script_gen.specs.declared.generating.Generation.{Generation}

-- a command is one that was drawn, by as many draws as it takes
pub record IsDrawn (d : Drawn) (command : Command) (old new : ℕ) : Type 0 where
  pub is : command ≡ d.command
  pub state : new ≡ state_after d.draws old

abbrev pub progress_of : Generation → Progress
progress_of g = record { state = g.draws.state; gcs = g.gcs }
