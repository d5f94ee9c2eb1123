use Rattle.journal_text.proofs.Splitting.{none_left}
use Rattle.journal_text.proofs.parsing.cursor.Fields.is_done.Goals as goal

pub returns : goal.returns
returns c = rw (← c.self.view_is) (none_left c.self.inside.some c.self.inside.rest.now)
