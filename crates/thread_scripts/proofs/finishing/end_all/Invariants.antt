use Rattle.std.proofs.Common.{◌≡◌, ◌-◌, ◌^◌, length}
use Rattle.heap_turns.specs.Parcels.{AreReady}
use Rattle.thread_scripts.proofs.finishing.end_all.Given as goal

abbrev pub invariant-loop-t : goal.invariant-loop-t
invariant-loop-t l = record {
  ready : AreReady l.world l.parcels;
  program : l.world.program ≡ l.initial.world.program;
}

abbrev pub decreases-loop-t : goal.decreases-loop-t
decreases-loop-t l = 2 ^ 32 - length l.world.history
