use Rattle.std.proofs.Common.{◌-◌, ◌*◌, length}
use Rattle.copy_space.specs.State.{state}
use Rattle.scavenge.specs.Fields.{IsSameCopier}
use Rattle.collect_pass.proofs.SettlingLoop.{IsRound}
use Rattle.collect_pass.proofs.tracing.settle_all.Given as goal

abbrev pub ghost-scavenge_all : goal.ghost-scavenge_all
ghost-scavenge_all g a = g.a

abbrev pub ghost-ready_entries : goal.ghost-ready_entries
ghost-ready_entries g a = g.a

abbrev pub invariant-loop-done : goal.invariant-loop-done
invariant-loop-done g l = record {
  round : IsRound g.a (state l.fn.copier) (state l.copier) l.fn.weak l.weak l.done;
  same : IsSameCopier l.fn.copier l.copier;
}

abbrev pub decreases-loop-done : goal.decreases-loop-done
decreases-loop-done g l = 256 * length g.a.pages - length (state l.copier).moves
