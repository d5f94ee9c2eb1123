-- The object that is built takes at least two words.
use Rattle.lisp_heap.proofs.Leasing.{built_there, built_some}
use Rattle.lisp_heap.proofs.parcels.accept_in.Goals as goal

pub accept-requires : goal.accept-requires
accept-requires c =
    built_some c.in-Some.lease c.args.making
    (built_there c.args.slot.now c.in-Some.lease c.args.making c.in-Some.is c.requires.built c.requires.lease)
