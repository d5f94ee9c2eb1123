use Rattle.heap_laws.proofs.Slots.Counted.{slots-length}
use Rattle.heap_laws.proofs.words.slots_are_its_words.Goals as goal

pub returns : goal.returns
returns c = slots-length
