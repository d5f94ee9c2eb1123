use Rattle.journal_text.proofs.Distinct.{texts_distinct}
use Rattle.journal_text.proofs.laws.texts_are_distinct.Goals as goal

pub returns : goal.returns
returns c = texts_distinct
