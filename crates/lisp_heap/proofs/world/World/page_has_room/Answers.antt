-- A fill is at most a page.
use Rattle.std.proofs.Common.{arith, ◌∙◌, sym}
use Rattle.lisp_heap.proofs.WordReading.{fill_small}
use Rattle.lisp_heap.proofs.world.World.page_has_room.Goals as goal

pub overflow_add-result : goal.overflow_add-result
overflow_add-result c =
    omega (
      arith,
      fill_small c.self.inside c.self.invariant c.in-Some.page c.in-Used.ty c.in-Used.generation c.in-Used.fill c.in-Used.run_first c.in-Used.run_pages
          (sym c.in-Used.is ∙ c.entry.ensures),
      c.requires.size,
    )
