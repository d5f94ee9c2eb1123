use Rattle.machine_laws.proofs.OneRun.{one_journal, quiet_journal}
use Rattle.machine_laws.proofs.one_script_one_journal.Goals as goal

pub returns : goal.returns
returns c = (one_journal, quiet_journal)
