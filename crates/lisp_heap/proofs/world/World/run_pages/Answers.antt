-- A page of a World has a small number.
use Rattle.lisp_heap.proofs.PageReading.{page_small}
use Rattle.lisp_heap.proofs.world.World.run_pages.Goals as goal

pub returns-in-Free-clause-page : goal.returns-in-Free-clause-page
returns-in-Free-clause-page c = page_small c.self.inside c.args.self.now c.self.invariant c.self.view_is c.args.page c.requires

pub returns-in-Used-clause-page : goal.returns-in-Used-clause-page
returns-in-Used-clause-page c = page_small c.self.inside c.args.self.now c.self.invariant c.self.view_is c.args.page c.requires
