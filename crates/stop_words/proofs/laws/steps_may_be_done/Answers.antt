use Rattle.stop_words.proofs.Stepping.{may_step}
use Rattle.stop_words.proofs.laws.steps_may_be_done.Goals as goal

pub returns : goal.returns
returns g c = λ n t turn words s v step rule all at may. may_step g.P.Owned.owner_of n t turn words s v rule all at step may
