use Rattle.journal_laws.proofs.Events.{history_told}
use Rattle.journal_laws.proofs.histories_are_told.Goals as goal

pub returns : goal.returns
returns c = λ p h valid lawful. history_told p h valid lawful (c.events_are_plain.ensures p h valid lawful)
