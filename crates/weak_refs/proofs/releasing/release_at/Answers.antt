-- One side more of a chain.
use Rattle.copy_space.specs.State.{state}
use Rattle.scavenge.proofs.Frames.{same-on, same-self}
use Rattle.weak_refs.proofs.Readies.{readies-on, readies-same, ready-later}
use Rattle.weak_refs.proofs.releasing.release_at.Goals as goal

pub loop-init : goal.loop-init
loop-init g c = record { readies = readies-same g.a (state c.args.copier.now) c.requires.midway; same = same-self c.args.copier.now }

pub ready_side-requires : goal.ready_side-requires
ready_side-requires g c = ready-later g.a (state c.args.copier.now) (state c.loop.copier) c.args.weak.now.listed c.loop.invariant.readies c.requires

pub loop-preserved : goal.loop-preserved
loop-preserved g c = record {
  readies = readies-on g.a (state c.args.copier.now) (state c.loop.copier) (state c.ready_side.new.copier) c.loop.invariant.readies c.ready_side.ensures.readies;
  same = same-on c.args.copier.now c.loop.copier c.ready_side.new.copier c.loop.invariant.same c.ready_side.ensures.same;
}
