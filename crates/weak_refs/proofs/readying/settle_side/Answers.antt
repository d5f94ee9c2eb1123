-- What is settled stays as it is.
use Rattle.std.proofs.Common.{sym, ◌∙◌}
use Rattle.copy_space.specs.State.{state}
use Rattle.scavenge.proofs.Frames.{same-self}
use Rattle.weak_refs.proofs.Readies.{readies-same}
use Rattle.weak_refs.proofs.readying.settle_side.Goals as goal

pub is_placed-requires : goal.is_placed-requires
is_placed-requires g c = record { places = c.requires.midway.places; value = c.requires.v; is_word = c.requires.is_word }

pub returns-then-is_placed : goal.returns-then-is_placed
returns-then-is_placed g c = record {
  readies = readies-same g.a (state c.args.copier.now) c.requires.midway;
  settled = λ v hv. sym (c.is_placed.ensures v hv) ∙ c.if-is_placed.true;
  same = same-self c.args.copier.now;
}
