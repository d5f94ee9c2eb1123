-- What every machine keeps true.
use Rattle.heap_terms.specs.Valid.{IsValid}
use Rattle.machine_laws.specs.Orderly.{IsOrderly}
use Rattle.replay_core.specs.declared.machine.Machine.TheInside.{Inside}
use Rattle.replay_core.specs.MachineView.{MachineView, program_of, configuration_of}
use Rattle.heap_turns.specs.Parcels.{AreReady}

abbrev pub view_of : Inside → MachineView
view_of s = record { world = s.world; turn = s.stops.turn; words = s.stops.words; phases = s.phases }

-- its program is valid, there is a parcel for each thread, which agrees, and the configuration is orderly
pub record IsSound (s : Inside) : Type 0 where
  pub valid : IsValid s.world.program
  pub ready : AreReady s.world s.parcels.items
  pub orderly : IsOrderly (program_of (view_of s)) (configuration_of (view_of s))
