use Rattle.heap_laws.proofs.Order.ScriptsInOrder.{once_in_order, last_is_end}
use Rattle.heap_laws.proofs.histories.scripts_are_done.Goals as goal

pub returns : goal.returns
returns c = λ p h t valid complete l. (once_in_order p h t valid complete l, last_is_end p h t valid complete l)
