-- The command of a thread that builds an object.
use Rattle.lisp_heap.proofs.Accepting.{built_command}
use Rattle.lisp_heap.proofs.world.World.commit.Goals as goal

pub current-command-requires-clause-there : goal.current-command-requires-clause-there
current-command-requires-clause-there c =
    built_command c.self.inside c.args.self.now c.self.view_is c.args.parcel.now c.owner.result c.owner.ensures c.requires.built
