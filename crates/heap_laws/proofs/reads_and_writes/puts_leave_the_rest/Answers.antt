use Rattle.heap_laws.proofs.OneCommand.Put.{put_leaves}
use Rattle.heap_laws.proofs.reads_and_writes.puts_leave_the_rest.Goals as goal

pub returns : goal.returns
returns c = put_leaves
