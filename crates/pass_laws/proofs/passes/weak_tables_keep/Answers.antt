use Rattle.pass_laws.proofs.Reaching.{weak_tables}
use Rattle.pass_laws.proofs.passes.weak_tables_keep.Goals as goal

pub returns : goal.returns
returns c = weak_tables
