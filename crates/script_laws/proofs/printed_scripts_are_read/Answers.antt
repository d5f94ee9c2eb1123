use Rattle.script_laws.proofs.Scripts.{printed_is_read}
use Rattle.script_laws.proofs.printed_scripts_are_read.Goals as goal

pub returns : goal.returns
returns c = printed_is_read
