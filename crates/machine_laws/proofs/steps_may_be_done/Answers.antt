use Rattle.machine_laws.proofs.Steps.{may_step}
use Rattle.machine_laws.proofs.steps_may_be_done.Goals as goal

pub returns : goal.returns
returns c = may_step
