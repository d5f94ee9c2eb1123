-- An object that fits into a region begins far enough below its end.
use Rattle.std.proofs.Common.{arith}
use Rattle.heap_laws.proofs.Allocating.{size_least}
use Rattle.lisp_heap.proofs.parcels.build_in.Goals as goal

pub build-requires-clause-fits : goal.build-requires-clause-fits
build-requires-clause-fits c =
    omega (arith, (c.requires.fits c.in-Some.lease c.in-Some.is).0, size_least c.args.making.kind c.args.making.n)
