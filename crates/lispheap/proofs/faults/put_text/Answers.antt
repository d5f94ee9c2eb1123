use Rattle.lispheap.proofs.Saying.{stopped_within}
use Rattle.lispheap.proofs.faults.put_text.Goals as goal

pub returns-clause-stopped : goal.returns-clause-stopped
returns-clause-stopped g c = stopped_within c.write_all.result c.args.text.now _ _ c.write_all.ensures.front c.write_all.ensures.proper c.write_all.ensures.failed
