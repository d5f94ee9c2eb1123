use Rattle.heap_turns.specs.Parcels.{AreReady}
use Rattle.lispheap.proofs.tests.threads.go_again.Given as goal

abbrev pub invariant-loop-event : goal.invariant-loop-event
invariant-loop-event l = AreReady l.world l.parcels
