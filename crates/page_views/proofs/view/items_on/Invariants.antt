use Rattle.std.proofs.Common.{◌+◌, ◌*◌, length}
use Rattle.page_views.specs.Seen.{IsSeen}
use Rattle.page_views.proofs.view.items_on.Given as goal

abbrev pub invariant-loop-next : goal.invariant-loop-next
invariant-loop-next g l = IsSeen g.a (512 * l.page) (512 * l.page + l.fill) l.next l.walk l.items

abbrev pub decreases-loop-next : goal.decreases-loop-next
decreases-loop-next g l = length l.walk
