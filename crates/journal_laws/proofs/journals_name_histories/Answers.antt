use Rattle.std.proofs.Common.{refl, sym}
use Rattle.journal_laws.proofs.journals_name_histories.Goals as goal

pub returns : goal.returns
returns c = λ p h valid lawful. let told = c.histories_are_told.ensures p h valid lawful in
    (record { within = told; text = refl }, λ g is. c.texts_are_distinct.ensures g h is.within told (sym is.text))
