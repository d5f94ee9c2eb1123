use Rattle.journal_text.proofs.Exactly.{exactly}
use Rattle.journal_text.proofs.parsing.parse.Goals as goal

pub returns-clause-exact : goal.returns-clause-exact
returns-clause-exact c h j = exactly c.args.bytes.now c.events_of.result h j c.events_of.ensures.journal c.events_of.ensures.fault
