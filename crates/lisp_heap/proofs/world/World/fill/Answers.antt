-- A page is filled at most to its end.
use Rattle.std.proofs.Common.{◌≡◌, ◌≤◌, arith, ap}
use Rattle.heap_terms.specs.Heap.{fill_of}
use Rattle.lisp_heap.proofs.PageReading.{page_small, entry_most}
use Rattle.lisp_heap.proofs.world.World.fill.Goals as goal

pub returns-in-Free-clause-page : goal.returns-in-Free-clause-page
returns-in-Free-clause-page c = page_small c.self.inside c.args.self.now c.self.invariant c.self.view_is c.args.page c.requires

pub returns-in-Used-clause-most : goal.returns-in-Used-clause-most
returns-in-Used-clause-most c =
    let most : fill_of c.entry.result ≤ 512 = entry_most c.self.inside c.self.invariant c.args.page c.entry.result c.entry.ensures in
    let same : fill_of c.entry.result ≡ c.in-Used.fill = ap fill_of c.in-Used.is in
    omega arith

pub returns-in-Used-clause-page : goal.returns-in-Used-clause-page
returns-in-Used-clause-page c = page_small c.self.inside c.args.self.now c.self.invariant c.self.view_is c.args.page c.requires
