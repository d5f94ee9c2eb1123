use Rattle.heap_laws.proofs.Order.Determined.{one_next, one_history}
use Rattle.heap_laws.proofs.histories.order_determines.Goals as goal

pub returns : goal.returns
returns c = (one_next, one_history)
