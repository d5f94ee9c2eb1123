use Rattle.heap_laws.proofs.Programs.Limits.{limited}
use Rattle.heap_laws.proofs.heaps.valid_programs_are_limited.Goals as goal

pub returns : goal.returns
returns c = limited
