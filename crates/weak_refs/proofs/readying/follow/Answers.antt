-- The side is settled where the other one is.
use Rattle.std.proofs.Common.{sym, ◌∙◌}
use Rattle.copy_space.specs.State.{state}
use Rattle.weak_refs.proofs.Readies.{side-follows}
use Rattle.weak_refs.proofs.readying.follow.Goals as goal

pub settle_side-requires : goal.settle_side-requires
settle_side-requires g c =
    side-follows g.a (state c.args.copier.now) c.args.other c.args.side c.requires (sym (c.is_placed.ensures c.requires.u c.requires.other_is) ∙ c.if-is_placed.true)
