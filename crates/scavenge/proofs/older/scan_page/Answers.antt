-- A page that needs no scan.
use Rattle.std.proofs.Common.{arith}
use Rattle.copy_space.specs.State.{state}
use Rattle.copy_space.proofs.Places.{page-count}
use Rattle.scavenge.proofs.ClearPages.{clear-done}
use Rattle.scavenge.proofs.older.scan_page.Goals as goal

pub needs_no_scan-requires-clause-page : goal.needs_no_scan-requires-clause-page
needs_no_scan-requires-clause-page g c =
    let same = page-count g.a (state c.args.copier.now) c.requires.0.midway.places in
    let inside = c.requires.0.inside in
    omega (arith, same, inside)

pub returns-then-needs_no_scan-clause-scanned : goal.returns-then-needs_no_scan-clause-scanned
returns-then-needs_no_scan-clause-scanned g c =
    clear-done g.a (state c.args.copier.now) c.args.page c.args.words c.requires.0 (c.needs_no_scan.ensures c.if-needs_no_scan.true) c.args.weak.now.listed
