use Rattle.trace_laws.proofs.Ending.{traces-end}
use Rattle.trace_laws.proofs.traces_end.Goals as goal

pub returns : goal.returns
returns c = traces-end
