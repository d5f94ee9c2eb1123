use Rattle.object_walk.proofs.HeapWalks.{page_laid}
use Rattle.object_walk.proofs.laws.pages_of_heaps_are_laid_out.Goals as goal

pub returns : goal.returns
returns c = page_laid
