-- Both sides can be looked up.
use Rattle.copy_space.specs.State.{state}
use Rattle.weak_refs.proofs.Readies.{key-looked, value-looked}
use Rattle.weak_refs.proofs.readying.note_pair.Goals as goal

pub note_side-requires : goal.note_side-requires
note_side-requires g c = key-looked g.a (state c.args.copier.now) c.args.weakness c.args.key c.args.value c.requires

pub note_side-requires-in-KeyOrValue : goal.note_side-requires-in-KeyOrValue
note_side-requires-in-KeyOrValue g c = value-looked g.a (state c.args.copier.now) c.args.weakness c.args.key c.args.value c.requires
