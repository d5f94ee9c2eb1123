use Rattle.heap_laws.proofs.Ranges.ObjectCount.{commits_few}
use Rattle.heap_laws.proofs.heaps.heaps_are_small.Goals as goal

pub returns : goal.returns
returns c = λ p h valid lawful. commits_few p h valid lawful
