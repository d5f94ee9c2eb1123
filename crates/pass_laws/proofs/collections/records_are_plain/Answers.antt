use Rattle.pass_laws.proofs.Ranges.{collection_plain}
use Rattle.pass_laws.proofs.collections.records_are_plain.Goals as goal

pub returns : goal.returns
returns c = collection_plain
