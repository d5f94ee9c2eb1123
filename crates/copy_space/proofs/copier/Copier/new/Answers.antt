-- The pins are marked, and the state is midway.
use Rattle.std.proofs.Common.{◌≤◌, length, refl, arith}
use Rattle.heap_terms.specs.declared.limits.TheConstants.{MOST_PAGES}
use Rattle.copy_space.proofs.Starting.{starts, pins-inside}
use Rattle.copy_space.proofs.copier.Copier.new.Goals as goal

pub mark_starts-requires : goal.mark_starts-requires
mark_starts-requires g c = pins-inside g.a _ _ _ _ _ _ c.requires.0

pub returns-clause-midway : goal.returns-clause-midway
returns-clause-midway g c =
    let most : length c.args.pages.now ≤ MOST_PAGES = omega arith in
    rw (c.requires.1, c.none.ensures)
    (starts g.a c.args.space.now c.args.pages.now c.args.marks.now c.mark_starts.new.marks c.args.pins.now.listed c.args.pass _ c.requires.0 most c.mark_starts.ensures.marked c.mark_starts.ensures.long)

pub returns-clause-starts : goal.returns-clause-starts
returns-clause-starts g c = rw (c.requires.1, c.none.ensures) refl
