use Rattle.heap_laws.proofs.Order.RunsAsRelation.{lawful_from_run, run_from_lawful}
use Rattle.heap_laws.proofs.histories.runs_are_lawful.Goals as goal

pub returns : goal.returns
returns c = λ p a h b. (lawful_from_run p a h b, λ both. run_from_lawful p a h b both.0 both.1)
