use Rattle.heap_laws.proofs.Ranges.FinalizersFew.{replay-finalizers}
use Rattle.heap_laws.proofs.heaps.finalizers_are_few.Goals as goal

pub returns : goal.returns
returns c = λ p h lawful. replay-finalizers p h lawful
