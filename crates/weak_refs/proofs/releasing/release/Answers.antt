-- One move more.
use Rattle.copy_space.specs.State.{state}
use Rattle.scavenge.proofs.Frames.{same-on, same-self}
use Rattle.weak_refs.proofs.Readies.{readies-on, readies-same, ready-later}
use Rattle.weak_refs.proofs.releasing.release.Goals as goal

pub loop-moves-init : goal.loop-moves-init
loop-moves-init g c = record { readies = readies-same g.a (state c.args.copier.now) c.requires.midway; same = same-self c.args.copier.now }

pub release_at-requires : goal.release_at-requires
release_at-requires g c = ready-later g.a (state c.args.copier.now) (state c.loop-moves.copier) c.args.weak.now.listed c.loop-moves.invariant.readies c.requires

pub loop-moves-preserved : goal.loop-moves-preserved
loop-moves-preserved g c = record {
  readies = readies-on g.a (state c.args.copier.now) (state c.loop-moves.copier) (state c.release_at.new.copier) c.loop-moves.invariant.readies c.release_at.ensures.readies;
  same = same-on c.args.copier.now c.loop-moves.copier c.release_at.new.copier c.loop-moves.invariant.same c.release_at.ensures.same;
}
