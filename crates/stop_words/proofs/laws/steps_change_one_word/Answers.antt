use Rattle.stop_words.proofs.Stepping.{one_word}
use Rattle.stop_words.proofs.laws.steps_change_one_word.Goals as goal

pub returns : goal.returns
returns g c = λ n t old new v step before after at may is. one_word g.P.Owned.owner_of n t old new v before after at step may is
