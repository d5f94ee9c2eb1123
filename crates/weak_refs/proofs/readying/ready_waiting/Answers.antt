-- The tables that are new, and then what waits.
use Rattle.copy_space.specs.State.{state}
use Rattle.scavenge.proofs.Frames.{same-on}
use Rattle.weak_refs.proofs.Readies.{readies-on, ready-later}
use Rattle.weak_refs.proofs.readying.ready_waiting.Goals as goal

pub release-requires : goal.release-requires
release-requires g c = ready-later g.a (state c.args.copier.now) (state c.ready_all.new.copier) c.args.weak.now.listed c.ready_all.ensures.readies c.requires

pub returns-then-waiting-clause-readies : goal.returns-then-waiting-clause-readies
returns-then-waiting-clause-readies g c =
    readies-on g.a (state c.args.copier.now) (state c.ready_all.new.copier) (state c.release.new.copier) c.ready_all.ensures.readies c.release.ensures.readies

pub returns-then-waiting-clause-same : goal.returns-then-waiting-clause-same
returns-then-waiting-clause-same g c = same-on c.args.copier.now c.ready_all.new.copier c.release.new.copier c.ready_all.ensures.same c.release.ensures.same
