use Rattle.machine_laws.proofs.Complete.{many_never_rise}
use Rattle.machine_laws.proofs.Rounds.{round_or_end}
use Rattle.machine_laws.proofs.rounds_end.Goals as goal

pub returns : goal.returns
returns c = (many_never_rise, round_or_end)
