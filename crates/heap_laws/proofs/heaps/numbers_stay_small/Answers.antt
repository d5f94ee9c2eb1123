use Rattle.heap_laws.proofs.Ranges.PolicyNumbers.{replay-numbers, pass-numbers}
use Rattle.heap_laws.proofs.heaps.numbers_stay_small.Goals as goal

pub returns : goal.returns
returns c = (replay-numbers, pass-numbers)
