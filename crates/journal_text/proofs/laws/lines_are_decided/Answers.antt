use Rattle.journal_text.proofs.Decided.{lines_decided}
use Rattle.journal_text.proofs.laws.lines_are_decided.Goals as goal

pub returns : goal.returns
returns c = lines_decided
