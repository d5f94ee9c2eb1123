use Rattle.heap_laws.proofs.WellFormed.Replayed.{history-kept}
use Rattle.heap_laws.proofs.heaps.heaps_are_well_formed.Goals as goal

pub returns : goal.returns
returns c = history-kept
