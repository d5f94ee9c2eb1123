use Rattle.machine_laws.proofs.Complete.{run_complete}
use Rattle.machine_laws.proofs.runs_are_complete.Goals as goal

pub returns : goal.returns
returns c = run_complete
